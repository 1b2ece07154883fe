-- Manual, section 4.4: the edges of the parser's tables, which are its shifts and gotos, and the walk back along them: each as a
-- property, and as it is computed.
use Rattle.std.specs.Prelude.{◌≡◌, Bool, true, false, ◌&&◌, List, ℕ, zero, suc, ◌+◌, ◌*◌, ◌-◌, ◌/◌, ◌%◌, ◌<◌, eqb, leb, ltb}
use Rattle.pack.specs.Image.{terminals, nonterminals, states, act, goto, first_nonterminal, of_nonterminal}
use Rattle.conditions.specs.Tests.{all_below, some_below, implies}

-- An edge leads from parse state s, on a symbol, to v.
pub data Edge (img : List ℕ) (s : ℕ) : ℕ → ℕ → Type 0 where
  shifts : {t v : ℕ} → s < states img → t < terminals img → act img s t ≡ 2 + 2 * v → Edge img s t v
  goes : {n v : ℕ} → s < states img → n < nonterminals img → goto img s n ≡ 1 + v → Edge img s (of_nonterminal n) v

-- Going back so many edges from s can lead to u.
pub data Back (img : List ℕ) (s : ℕ) : ℕ → ℕ → Type 0 where
  here : Back img s 0 s
  along : {i u v x : ℕ} → Back img s i v → Edge img u x v → Back img s (suc i) u

-- Every symbol is below this number. Numbers below it that are neither a terminal's nor a nonterminal's carry no edge.
abbrev pub symbols : List ℕ → ℕ
symbols img = of_nonterminal (nonterminals img)

-- Where a code of the action table shifts to: 1 + s for a shift to state s, and 0 for any other code.
unfoldable pub shift_of : ℕ → ℕ
shift_of code = elim (eqb (code % 2) 0) [ true ↦ code / 2 | false ↦ 0 ]

-- Where the edge from s on symbol x leads: 1 + v to state v, and 0 where there is none.
unfoldable pub edge_to : List ℕ → ℕ → ℕ → ℕ
edge_to img s x =
    elim (ltb x (terminals img)) [
      | true ↦ shift_of (act img s x)
      | false ↦ elim (leb first_nonterminal x && ltb x (symbols img)) [ true ↦ goto img s (x - first_nonterminal) | false ↦ 0 ]
    ]

-- There is an edge from s to v on symbol x; one from s to v; one on x into v.
unfoldable pub is_edge : List ℕ → ℕ → ℕ → ℕ → Bool
is_edge img s x v = eqb (edge_to img s x) (1 + v)

unfoldable pub leads : List ℕ → ℕ → ℕ → Bool
leads img s v = some_below (symbols img) (λ x. is_edge img s x v)

unfoldable pub enters : List ℕ → ℕ → ℕ → Bool
enters img v x = some_below (states img) (λ s. is_edge img s x v)

-- Every edge into v carries symbol x.
unfoldable pub only_on : List ℕ → ℕ → ℕ → Bool
only_on img x v = all_below (symbols img) (λ y. implies (enters img v y) (eqb y x))

-- Going back i edges from s, in every way, leads to u among others. (The edge is asked first: it is the cheaper question.)
unfoldable pub reached : List ℕ → ℕ → ℕ → ℕ → Bool
reached img s zero u = eqb u s
reached img s (suc i) u = some_below (states img) (λ v. elim (leads img u v) [ true ↦ reached img s i v | false ↦ false ])

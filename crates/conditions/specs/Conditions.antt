-- Manual, sections 4.1 to 4.6: the conditions K1 to K6. Each stands here as a property, `K1` to `K6`, and directly below it as the test
-- that is computed, `k1` to `k6`. That each test decides its property is proved in proofs/Decides.antt.
use Rattle.std.specs.Prelude.{◌≡◌, Bool, true, ◌&&◌, List, ℕ, zero, suc, ◌+◌, ◌*◌, ◌-◌, ◌<◌, eqb, leb}
use Rattle.sets.specs.Sets.{has, member, meet, union, subset, several}
use Rattle.numbers.specs.Verdicts.{Good}
use Rattle.pack.specs.Image.{terminals, productions, states, scan_states, classes, groups, layout, dom, lhs, len, symbol, act, goto, move, acc, rej, poss, group_set, valid_set, start_symbol}
use Rattle.shape.specs.Shape.{shape}
use Rattle.conditions.specs.Tests.{all_below, some_below, implies, same}
use Rattle.conditions.specs.Edges.{Edge, Back, symbols, leads, enters, only_on, reached}

-- Everything in a is in b.
pub record Subset (a b : ℕ) : Type 0 where
  pub each : (t : ℕ) → has a t ≡ 1 → has b t ≡ 1

-- M, the terminals that match in scan state q: it accepts or rejects them.
abbrev pub matched : List ℕ → ℕ → ℕ
matched img q = union (acc img q) (rej img q)

-- Terminal t matches in scan state q, and so does one that outranks it.
pub record Outranked (img : List ℕ) (q t : ℕ) : Type 0 where
  pub matches : has (matched img q) t ≡ 1
  pub by : ℕ
  pub outranks : has (dom img t) by ≡ 1
  pub matches_too : has (matched img q) by ≡ 1

-- K1 of scan state q: what it rejects is exactly what is outranked there.
pub record K1 (img : List ℕ) (q : ℕ) : Type 0 where
  pub rejected : (t : ℕ) → t < terminals img → has (rej img q) t ≡ 1 → Outranked img q t
  pub outranked : (t : ℕ) → t < terminals img → Outranked img q t → has (rej img q) t ≡ 1

unfoldable pub outranked : List ℕ → ℕ → ℕ → Bool
outranked img m t = member m t && leb 1 (meet (dom img t) m)

unfoldable pub k1 : List ℕ → ℕ → Bool
k1 img q = all_below (terminals img) (λ t. same (member (rej img q) t) (outranked img (matched img q) t))

-- K2 of scan state q: what matches is possible, and moving on makes nothing possible that was not.
pub record K2 (img : List ℕ) (q : ℕ) : Type 0 where
  pub now : Subset (matched img q) (poss img q)
  pub later : (c p : ℕ) → c < classes img → move img q c ≡ 1 + p → Subset (poss img p) (poss img q)

unfoldable pub within : List ℕ → ℕ → ℕ → Bool
within img q zero = true
within img q (suc p) = subset (poss img p) (poss img q)

unfoldable pub k2 : List ℕ → ℕ → Bool
k2 img q = subset (matched img q) (poss img q) && all_below (classes img) (λ c. within img q (move img q c))

-- V(s) ∪ layout, what the scans in parse state s are made for: the terminals that it allows, and layout.
abbrev pub sought : List ℕ → ℕ → ℕ
sought img s = union (valid_set img s) (layout img)

-- K3 of parse state s and scan state q: where q accepts more than one terminal that s allows or that is layout, they are the set of a group.
pub record K3 (img : List ℕ) (s q : ℕ) : Type 0 where
  pub grouped : several (meet (acc img q) (sought img s)) ≡ true
      → (g : ℕ) × (g < groups img) × (group_set img g ≡ meet (acc img q) (sought img s))

unfoldable pub is_group : List ℕ → ℕ → Bool
is_group img set = some_below (groups img) (λ g. eqb (group_set img g) set)

unfoldable pub settled : List ℕ → ℕ → ℕ → Bool
settled img q v = let both = meet (acc img q) v in implies (several both) (is_group img both)

unfoldable pub k3 : List ℕ → ℕ → ℕ → Bool
k3 img s q = settled img q (sought img s)

-- K4 of parse state v: no edge leads to state 0, and all edges into v carry one symbol.
pub record K4 (img : List ℕ) (v : ℕ) : Type 0 where
  pub not_start : (s x : ℕ) → Edge img s x v → v ≡ 0 → ⊥
  pub one_symbol : (s x r y : ℕ) → Edge img s x v → Edge img r y v → x ≡ y

unfoldable pub k4 : List ℕ → ℕ → Bool
k4 img v = all_below (symbols img) (λ x. implies (enters img v x) (leb 1 v && only_on img x v))

-- Row s of the action table reduces by production p.
pub record Reduces (img : List ℕ) (s p : ℕ) : Type 0 where
  pub column : ℕ
  pub within : column < terminals img
  pub cell : act img s column ≡ 3 + 2 * p

unfoldable pub reduces : List ℕ → ℕ → ℕ → Bool
reduces img s p = some_below (terminals img) (λ t. eqb (act img s t) (3 + 2 * p))

-- K5 of parse state s and a production p that row s reduces by, for every way of going back as many edges from s as p has symbols:
-- a state reached before the last step is not 0, and has p's symbol on all its edges in, the last symbol at s itself and so on to the
-- left; a state reached at the end has a goto on p's left side. After i steps the symbol is the one at len - 1 - i.
pub record K5 (img : List ℕ) (s p : ℕ) : Type 0 where
  pub not_start : (i u : ℕ) → i < len img p → Back img s i u → u ≡ 0 → ⊥
  pub on_symbol : (i u r x : ℕ) → i < len img p → Back img s i u → Edge img r x u → x ≡ symbol img p (len img p - 1 - i)
  pub has_goto : (u : ℕ) → Back img s (len img p) u → goto img u (lhs img p) ≡ 0 → ⊥

unfoldable pub steps : List ℕ → ℕ → ℕ → ℕ → Bool
steps img s p i =
    all_below (states img)
    (λ u. implies (reached img s i u) (leb 1 u && only_on img (symbol img p (len img p - 1 - i)) u))

unfoldable pub ends : List ℕ → ℕ → ℕ → Bool
ends img s p = all_below (states img) (λ u. implies (reached img s (len img p) u) (leb 1 (goto img u (lhs img p))))

unfoldable pub k5 : List ℕ → ℕ → ℕ → Bool
k5 img s p = implies (reduces img s p) (all_below (len img p) (steps img s p) && ends img s p)

-- K6 of a parse state s that accepts: it is not 0, and every edge into it comes from state 0 on the start symbol.
pub record K6 (img : List ℕ) (s : ℕ) : Type 0 where
  pub not_start : s ≡ 0 → ⊥
  pub from_start : (r x : ℕ) → Edge img r x s → r ≡ 0
  pub on_start_symbol : (r x : ℕ) → Edge img r x s → x ≡ start_symbol

unfoldable pub from_start : List ℕ → ℕ → Bool
from_start img s = all_below (states img) (λ r. implies (leads img r s) (eqb r 0))

unfoldable pub k6 : List ℕ → ℕ → Bool
k6 img s = implies (eqb (act img s 0) 1) (leb 1 s && (only_on img start_symbol s && from_start img s))

-- A pack passes where its shape is good and the six conditions hold at all their places.
pub record Passes (img : List ℕ) : Type 0 where
  pub good : shape img ≡ Good
  pub k1 : (q : ℕ) → q < scan_states img → K1 img q
  pub k2 : (q : ℕ) → q < scan_states img → K2 img q
  pub k3 : (s q : ℕ) → s < states img → q < scan_states img → K3 img s q
  pub k4 : (v : ℕ) → v < states img → K4 img v
  pub k5 : (s p : ℕ) → s < states img → p < productions img → Reduces img s p → K5 img s p
  pub k6 : (s : ℕ) → s < states img → act img s 0 ≡ 1 → K6 img s

-- What the promise says of the small pack: it passes, so every run of it is an instance; the records of `tax by day` are one
-- derivation; no leaf may go back to the name `b` in `by`; and `by` where it is not allowed is the letter's case. Each is one computation.
-- Assumes nothing.
use mathlib.Core.Path.{◌≡◌, refl}
use mathlib.Core.List.{List, [], ◌∷◌}
use Prim.Native.Nat.{ℕ, zero, suc}
use native.Mathlib.Omega.{arith}
use Rattle.sets.specs.Sets.{has}
use Rattle.sets.proofs.Laws.{has_none, has-suc}
use Rattle.text.specs.Bytes.{bytes}
use Rattle.pack.specs.Image.{set_at, layout, dom, lhs, len, symbol, symbols_from, act, goto, move, acc, rej, lo, hi, range_class, class_in, valid_from, start_symbol}
use Rattle.scan.specs.Matching.{led_from, Matches}
use Rattle.parse.specs.Leaf.{part}
use Rattle.parse.specs.Parse.{parse}
use Rattle.promise.specs.SmallPack.{small}
use Rattle.promise.specs.Derivation.{Trees, none, leaf, node}
use Rattle.promise.specs.Cover.{RightLeaf}
use Rattle.promise.specs.Refusal.{Outdone}
use Rattle.promise.specs.Promised.{Promised, Halts}
use Rattle.promise.specs.Way.{begin}
use Rattle.promise.proofs.Passing.{small_passes}
use Rattle.promise.proofs.Promised.{promised}
use Rattle.promise.proofs.Letter.{halts}

pub small-promised : (text tree : List ℕ) (allowance : ℕ) → Promised small text (parse small text tree allowance)
small-promised = promised small small_passes

pub tax_by_day : Trees small 0 (start_symbol ∷ []) (2 ∷ 0 ∷ 3 ∷ 0 ∷ 1 ∷ 4 ∷ 2 ∷ 1 ∷ 2 ∷ 7 ∷ 3 ∷ 2 ∷ 64 ∷ 1 ∷ 3 ∷ 0 ∷ []) 4
unfolding small symbols_from lhs len symbol act goto
tax_by_day =
    let children : Trees small 0 (2 ∷ 1 ∷ 2 ∷ []) (2 ∷ 0 ∷ 3 ∷ 0 ∷ 1 ∷ 4 ∷ 2 ∷ 1 ∷ 2 ∷ 7 ∷ 3 ∷ 2 ∷ []) 3 =
    leaf {t = 2} {v = 1} 0 3 (omega arith) refl (leaf {t = 1} {v = 2} 4 2 (omega arith) refl (leaf {t = 2} 7 3 (omega arith) refl none)) in
    node {p = 1} (omega arith) children (record { column = 0; within = omega arith; cell = refl }) refl none

-- The letter's `grou`: after `b` alone, reading on, the name is rejected at `by`.
pub no_b_in_by : RightLeaf small (bytes "by") 2 0 1 0 → ⊥
unfolding small set_at layout move lo hi range_class class_in acc rej act valid_from led_from
no_b_in_by r = let z : ◌≡◌ {A = ℕ} 4 0 = r.right.last.after 2 2 (omega arith) (omega arith) (record { way = refl }) in omega arith

-- `by` at the start is the letter's case: of what state 0 looks for, names and blanks, the name is outranked by the keyword, which it does
-- not allow, and blanks do not match there.
pub by_outdone : Outdone small (bytes "by") 0 0
unfolding small set_at layout move lo hi range_class class_in dom acc rej act valid_from led_from has
by_outdone =
    record {
      size = 2;
      q = 2;
      last = record { within = omega arith; leads = record { way = refl }; here = λ z. omega arith; after = λ m p h w f. absurd (omega arith) };
      by = λ t v m. only t v m;
    }
  where
    keyword : (u : ℕ) × (has (dom small 2) u ≡ 1) × Matches small (part (bytes "by") 0 2) u
    keyword = (1, refl, record { state = 2; leads = record { way = refl }; here = refl })

    no_blanks : Matches small (part (bytes "by") 0 2) 3 → ⊥
    no_blanks m = let y : 3 ≡ suc m.state = m.leads.way in let z : m.state ≡ 2 = omega arith in let f : ◌≡◌ {A = ℕ} 0 1 = rw z at m.here in omega arith

    only : (t : ℕ) → has 12 t ≡ 1 → Matches small (part (bytes "by") 0 2) t
        → (u : ℕ) × (has (dom small t) u ≡ 1) × Matches small (part (bytes "by") 0 2) u
    only zero v m = absurd (omega arith)
    only (suc zero) v m = absurd (omega arith)
    only (suc (suc zero)) v m = keyword
    only (suc (suc (suc zero))) v m = absurd (no_blanks m)
    only (suc (suc (suc (suc t)))) v m =
        absurd (omega (arith, v, has-suc 12 (suc (suc (suc t))), has-suc 6 (suc (suc t)), has-suc 3 (suc t), has-suc 1 t, has_none t))

-- So a parse of `by` gets no further than its start, whatever the room and the allowance.
pub by_halts : (tree : List ℕ) (allowance : ℕ) → Halts [] 0 (parse small (bytes "by") tree allowance)
by_halts tree allowance = halts small small_passes (bytes "by") begin by_outdone (small-promised (bytes "by") tree allowance)

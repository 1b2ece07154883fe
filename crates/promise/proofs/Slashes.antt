-- That layout does not win by coming first, of a pack in which a comment begins as an operator does: `//=` is the longest that state 0 may
-- read at the start, and is read. Assumes nothing.
use mathlib.Core.Path.{◌≡◌, refl}
use Prim.Native.Nat.{ℕ, zero, suc, ◌<◌, ◌≤◌}
use native.Mathlib.Omega.{arith}
use Rattle.sets.specs.Sets.{has}
use Rattle.sets.proofs.Laws.{has-suc, has_none}
use Rattle.pack.specs.Image.{set_at, layout, act, move, acc, rej, lo, hi, range_class, class_in, valid_from}
use Rattle.scan.specs.Matching.{led_from, Matches}
use Rattle.look.specs.Look.{look}
use Rattle.parse.specs.Leaf.{part}
use Rattle.parse.specs.Parse.{start}
use Rattle.promise.specs.Together.{Longest, Reads}
use Rattle.promise.specs.WrongLooks.{slashes, slashes_text}
use Rattle.promise.proofs.Looks.{right_look}
use Rattle.promise.proofs.Together.{operator_read}
use Rattle.promise.proofs.WrongLooks.{slashes_passes}

pub slashes_longest : Longest slashes slashes_text 1 0 3 0
unfolding slashes set_at layout move lo hi range_class class_in acc rej act valid_from led_from has
slashes_longest =
    record {
      is_state = omega arith;
      is_allowed = refl;
      within = omega arith;
      accepted = record { state = 3; leads = record { way = refl }; here = refl };
      others_shorter = λ t n other c l m. shorter t n other m;
      no_longer = λ n l m. no_more 1 n m;
    }
  where
    -- After `//=` there is no way on.
    no_more : (t n : ℕ) → Matches slashes (part slashes_text 0 n) t → n ≤ 3
    no_more t zero m = omega arith
    no_more t (suc zero) m = omega arith
    no_more t (suc (suc zero)) m = omega arith
    no_more t (suc (suc (suc zero))) m = omega arith
    no_more t (suc (suc (suc (suc n)))) m = let z : 0 ≡ suc m.state = m.leads.way in absurd (omega arith)

    operator_alone : (t : ℕ) → (t ≡ 1 → ⊥) → has 2 t ≡ 1 → ⊥
    operator_alone zero other h = omega arith
    operator_alone (suc zero) other h = other refl
    operator_alone (suc (suc t)) other h = omega (arith, h, has-suc 2 (suc t), has-suc 1 t, has_none t)

    shorter : (t n : ℕ) → (t ≡ 1 → ⊥) → Matches slashes (part slashes_text 0 n) t → n < 3
    shorter t zero other m = omega arith
    shorter t (suc zero) other m = omega arith
    shorter t (suc (suc zero)) other m = omega arith
    shorter t (suc (suc (suc zero))) other m =
        let y : 4 ≡ suc m.state = m.leads.way in
        let z : m.state ≡ 3 = omega arith in
        let h : has 2 t ≡ 1 = rw z at m.here in
        absurd (operator_alone t other h)
    shorter t (suc (suc (suc (suc n)))) other m = let z : 0 ≡ suc m.state = m.leads.way in absurd (omega arith)

pub slashes_read : (allowance : ℕ) → Reads 1 0 3 (look slashes slashes_text allowance 0 start.at)
slashes_read allowance = operator_read slashes slashes_passes slashes_text (right_look slashes slashes_passes slashes_text allowance) start.at tt slashes_longest

-- Bytes that are written in front of others: two writes are one, and the room that is left. Assumes nothing.
use mathlib.Core.Path.{◌≡◌, refl, sym, ap, ◌∙◌}
use mathlib.Core.Bool.{Bool, true, false}
use mathlib.Core.List.{List, [], ◌∷◌, ◌++◌, append_assoc}
use Prim.Native.Nat.{ℕ, suc, ◌+◌, ◌-◌, ◌/◌, ◌%◌, ◌<◌, ◌≤◌}
use native.Mathlib.Nat.{add-zero}
use native.Mathlib.Omega.{arith}
use lib.ListN.{length, get_or, take, drop, set, length-append, length-drop, take-append-drop}
use lib.Seq.{length-take-le, take-append-le, take-take, drop_at, set_split}
use Rattle.text.specs.Decimal.{decimal}
use Rattle.text.proofs.Decimal.{decimal_one, decimal_more}
use Rattle.print.specs.Print.{leaf, node, Trees, special, escaped_byte, escaped, show, show_each}
use Rattle.escape.proofs.Escaped.{escaped-special, escaped_plain, escaped_at, escaped_end, escaped_some, escaped_part}
use Rattle.printwalk.specs.Steps.{Room, Wrote}

-- ---- writes
pub wrote_none : (out : List ℕ) (to : ℕ) → Wrote [] out to out to
wrote_none out to = record { begins = add-zero to; holds = sym (take-append-drop to out) }

pub wrote_as : {bytes out out' : List ℕ} {to r : ℕ} (bytes' : List ℕ) → bytes' ≡ bytes → Wrote bytes out to out' r → Wrote bytes' out to out' r
wrote_as bytes' e w = rw e w

pub wrote_one : (out : List ℕ) (to b : ℕ) → Room (b ∷ []) out to → Wrote (b ∷ []) out to (set out (to - 1) b) (to - 1)
wrote_one out to b room =
    let z : suc (to - 1) ≡ to = omega (arith, room.fits) in
    record { begins = omega (arith, room.fits); holds = set_split out (to - 1) b (omega (arith, room.fits, room.within)) ∙ rw z }

module _ {out : List ℕ} {to : ℕ} (within : to ≤ length out) where
  pub wrote_length : {bytes out₁ : List ℕ} {r : ℕ} → Wrote bytes out to out₁ r → length out₁ ≡ length out
  wrote_length {bytes} {out₁} {r} w =
      ap length w.holds ∙ omega (arith, w.begins, within, length-append (take r out) (bytes ++ drop to out), length-append bytes (drop to out), length-take-le r out (omega (arith, w.begins, within)), length-drop to out)

  pub wrote_two : {a b out₁ out₂ : List ℕ} {r₁ r₂ : ℕ} → Wrote b out to out₁ r₁ → Wrote a out₁ r₁ out₂ r₂ → Wrote (a ++ b) out to out₂ r₂
  wrote_two {a} {b} {out₁} {out₂} {r₁} {r₂} w v =
      let l : length (take r₁ out) ≡ r₁ = length-take-le r₁ out (omega (arith, w.begins, within)) in
      let x : take r₂ out₁ ≡ take r₂ out =
      ap (take r₂) w.holds ∙ take-append-le r₂ (take r₁ out) (b ++ drop to out) (omega (arith, v.begins, l)) ∙ take-take r₂ r₁ out (omega (arith, v.begins)) in
      let y : drop r₁ out₁ ≡ b ++ drop to out = ap (drop r₁) w.holds ∙ drop_at (take r₁ out) (b ++ drop to out) r₁ l in
      record {
        begins = omega (arith, w.begins, v.begins, length-append a b);
        holds = v.holds ∙ rw (x, y, append_assoc a b (drop to out));
      }

  pub room_rest : (a : List ℕ) {b out₁ : List ℕ} {r₁ : ℕ} → Room (a ++ b) out to → Wrote b out to out₁ r₁ → Room a out₁ r₁
  room_rest a {b} room w = record { fits = omega (arith, room.fits, w.begins, length-append a b); within = omega (arith, room.within, w.begins, wrote_length w) }

pub room_last : (a : List ℕ) {b out : List ℕ} {to : ℕ} → Room (a ++ b) out to → Room b out to
room_last a {b} room = record { fits = omega (arith, room.fits, length-append a b); within = room.within }

-- ---- the parts of a leaf and of a node, as they are written from the right
pub leaf_parts : (t : ℕ) (bytes : List ℕ)
    → show (leaf t bytes) ≡ ((((decimal t ++ (58 ∷ [])) ++ (91 ∷ [])) ++ escaped bytes) ++ (93 ∷ []))
unfolding show
leaf_parts t bytes = simp append_assoc

pub node_parts : (p : ℕ) (children : Trees) → show (node p children) ≡ ((((40 ∷ []) ++ decimal p) ++ show_each children) ++ (41 ∷ []))
unfolding show
node_parts p children = simp append_assoc

-- ---- the functions' turns
module _ (b : ℕ) {out : List ℕ} {to : ℕ} (room : Room (escaped_byte b) out to) where
  -- A byte first, and then the backslash in front of it.
  pub byte_room : Room (b ∷ []) out to
  byte_room = record { fits = omega (arith, room.fits, escaped_some b); within = room.within }

  module _ {x : Bool} (e : x ≡ special b) {out₁ : List ℕ} {r₁ : ℕ} (w : Wrote (b ∷ []) out to out₁ r₁) where
    pub slash_room : x ≡ true → Room (92 ∷ []) out₁ r₁
    slash_room t = room_rest room.within (92 ∷ []) (rw (escaped-special b e t) at room) w

    pub slash_wrote : {out₂ : List ℕ} {r₂ : ℕ} → x ≡ true → Wrote (92 ∷ []) out₁ r₁ out₂ r₂ → Wrote (escaped_byte b) out to out₂ r₂
    slash_wrote t v = wrote_as (escaped_byte b) (escaped-special b e t) (wrote_two room.within w v)

    pub plain_wrote : x ≡ false → Wrote (escaped_byte b) out to out₁ r₁
    plain_wrote f = wrote_as (escaped_byte b) (escaped_plain b e f) w

module _ (bytes out₀ : List ℕ) (to : ℕ) (room : Room (escaped bytes) out₀ to) where
  pub bytes_start : Wrote (escaped (drop (length bytes) bytes)) out₀ to out₀ to
  bytes_start = wrote_as _ (escaped_end bytes (length bytes) refl) (wrote_none out₀ to)

  module _ (i : ℕ) (n : 0 < i) (l : i ≤ length bytes) {out : List ℕ} {at : ℕ} (w : Wrote (escaped (drop i bytes)) out₀ to out at) where
    cut : escaped (drop (i - 1) bytes) ≡ escaped_byte (get_or bytes (i - 1) 0) ++ escaped (drop i bytes)
    cut = let z : i - 1 + 1 ≡ i = omega arith in rw z at (escaped_at bytes (i - 1) (omega arith))

    pub bytes_room : Room (escaped_byte (get_or bytes (i - 1) 0)) out at
    bytes_room = record {
      fits = omega (arith, room.fits, w.begins, ap length cut, length-append (escaped_byte (get_or bytes (i - 1) 0)) (escaped (drop i bytes)), escaped_part bytes (i - 1));
      within = omega (arith, room.within, w.begins, wrote_length room.within w);
    }

    pub bytes_on : {out₁ : List ℕ} {r : ℕ} → Wrote (escaped_byte (get_or bytes (i - 1) 0)) out at out₁ r → Wrote (escaped (drop (i - 1) bytes)) out₀ to out₁ r
    bytes_on v = wrote_as _ cut (wrote_two room.within w v)

-- A number, its last digit first.
module _ (n : ℕ) {out : List ℕ} {to : ℕ} (room : Room (decimal n) out to) {d : ℕ} where
  module _ (h : n < 10) (e : d ≡ 48 + n) where
    pub one_room : Room (d ∷ []) out to
    one_room = rw (decimal_one n h, ← e) at room

    pub one_wrote : {out₁ : List ℕ} {r₁ : ℕ} → Wrote (d ∷ []) out to out₁ r₁ → Wrote (decimal n) out to out₁ r₁
    one_wrote w = rw (decimal_one n h, ← e) w

  module _ (h : 10 ≤ n) (e : d ≡ 48 + n % 10) where
    digits : decimal n ≡ decimal (n / 10) ++ (d ∷ [])
    digits = rw e (decimal_more n h)

    pub digit_room : Room (d ∷ []) out to
    digit_room = room_last (decimal (n / 10)) (rw digits at room)

    module _ {out₁ : List ℕ} {r₁ : ℕ} (w : Wrote (d ∷ []) out to out₁ r₁) where
      pub digits_room : Room (decimal (n / 10)) out₁ r₁
      digits_room = room_rest room.within (decimal (n / 10)) (rw digits at room) w

      pub digits_wrote : {out₂ : List ℕ} {r₂ : ℕ} → Wrote (decimal (n / 10)) out₁ r₁ out₂ r₂ → Wrote (decimal n) out to out₂ r₂
      digits_wrote v = wrote_as (decimal n) digits (wrote_two room.within w v)

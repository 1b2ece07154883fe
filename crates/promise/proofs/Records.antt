-- The records by their numbers: the words of a cover are whole records, and each record whose first word is a terminal is a right leaf.
-- Assumes nothing.
use mathlib.Core.Path.{◌≡◌, refl, ◌∙◌}
use mathlib.Core.Bool.{Bool, true, false}
use mathlib.Core.List.{List, [], ◌∷◌, ◌++◌}
use Prim.Native.Nat.{ℕ, ◌+◌, ◌*◌, ◌<◌}
use native.Mathlib.Omega.{arith}
use lib.Dec.{eqb}
use lib.ListN.{length, get_or, length-append, get_or-append}
use lib.Seq.{get_or-append-add}
use borrow.Author.Tests.{eqb-true, eqb-false}
use Rattle.pack.specs.Image.{first_nonterminal}
use Rattle.parse.specs.Parse.{record_words}
use Rattle.promise.specs.Cover.{RightLeaf, Covers, start, blank, leaf, node}

-- Word j of record i.
abbrev pub word_of : List ℕ → ℕ → ℕ → ℕ
word_of words i j = get_or words (i * record_words + j) 0

-- So many whole records.
pub record Whole (words : List ℕ) : Type 0 where
  pub count : ℕ
  pub all : length words ≡ count * record_words

-- One record more: the earlier ones are what they were, and the last is the new one.
module _ (words : List ℕ) (a b c d : ℕ) (w : Whole words) where
  abbrev longer : List ℕ
  longer = words ++ (a ∷ b ∷ c ∷ d ∷ [])

  one_more : Whole longer
  one_more = record { count = w.count + 1; all = length-append words (a ∷ b ∷ c ∷ d ∷ []) ∙ omega (arith, w.all) }

  earlier_word : (i j : ℕ) → i < w.count → j < record_words → word_of longer i j ≡ word_of words i j
  earlier_word i j l k = get_or-append words (a ∷ b ∷ c ∷ d ∷ []) 0 (i * record_words + j) (omega (arith, w.all))

  last_word : (i j : ℕ) → i ≡ w.count → word_of longer i j ≡ get_or (a ∷ b ∷ c ∷ d ∷ []) j 0
  last_word i j e =
      let z : i * record_words + j ≡ length words + j = omega (arith, w.all) in
      rw z (get_or-append-add words (a ∷ b ∷ c ∷ d ∷ []) j 0)

-- Record i is a right leaf.
abbrev pub LeafAt : List ℕ → List ℕ → List ℕ → ℕ → Type 0
LeafAt img text words i = RightLeaf img text (word_of words i 0) (word_of words i 1) (word_of words i 2) (word_of words i 3)

module _ (img text : List ℕ) where
  grown : (words : List ℕ) (a b c d : ℕ) (w : Whole words) (i : ℕ) → i < w.count + 1 → (i < w.count → word_of words i 0 < first_nonterminal → LeafAt img text words i)
      → (a < first_nonterminal → RightLeaf img text a b c d) → word_of (longer words a b c d w) i 0 < first_nonterminal → LeafAt img text (longer words a b c d w) i
  grown words a b c d w i l before new h = go (eqb i w.count) refl
    where
      go : (x : Bool) → eqb i w.count ≡ x → LeafAt img text (longer words a b c d w) i
      go true e =
          let last : (j : ℕ) → word_of (longer words a b c d w) i j ≡ get_or (a ∷ b ∷ c ∷ d ∷ []) j 0 = λ j. last_word words a b c d w i j (eqb-true _ _ e) in
          rw (last 0, last 1, last 2, last 3) (new (rw (last 0) at h))
      go false e =
          let other : (i ≡ w.count → ⊥) = eqb-false i w.count e in
          let less : i < w.count = omega arith in
          let same : (j : ℕ) → j < record_words → word_of (longer words a b c d w) i j ≡ word_of words i j = λ j. earlier_word words a b c d w i j less in
          rw (same 0 (omega arith), same 1 (omega arith), same 2 (omega arith), same 3 (omega arith))
          (before less (rw (same 0 (omega arith)) at h))

  whole : {words : List ℕ} {place : ℕ} → Covers img text words place → Whole words
  whole start = record { count = 0; all = refl }
  whole (blank size state c b) = whole c
  whole (leaf t size state c r) = one_more _ _ _ _ _ (whole c)
  whole (node p state c) = one_more _ _ _ _ _ (whole c)

  counted : {words : List ℕ} {place : ℕ} (c : Covers img text words place) (i : ℕ) → i < (whole c).count → word_of words i 0 < first_nonterminal
      → LeafAt img text words i
  unfolding whole one_more
  counted start i l h = absurd (omega arith)
  counted (blank size state c b) i l h = counted c i l h
  counted (leaf t size state c r) i l h = grown _ _ _ _ _ (whole c) i l (λ m k. counted c i m k) (λ k. r) h
  counted (node p state c) i l h = grown _ _ _ _ _ (whole c) i l (λ m k. counted c i m k) (λ k. absurd (omega arith)) h

-- "each leaf": every record whose first word is no nonterminal's is a right leaf.
pub every_leaf : {img text words : List ℕ} {place : ℕ} → Covers img text words place → (i : ℕ) → i * record_words < length words → word_of words i 0 < first_nonterminal
    → LeafAt img text words i
every_leaf {img} {text} c i l = counted img text c i (omega (arith, (whole img text c).all))

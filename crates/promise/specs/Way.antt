-- Manual, section 7: the way of a parse, which actions of the tables follow on which tokens of the text. Trees and covers say what the
-- letter asks for; the way says that they are those that the tables make, and no others.
use Rattle.std.specs.Prelude.{◌≡◌, List, [], ◌∷◌, ◌++◌, ℕ, ◌+◌, ◌*◌, ◌<◌, ◌≤◌, length, drop}
use Rattle.pack.specs.Image.{lhs, len, act, goto, end_of_text}
use Rattle.parse.specs.Parse.{leaf_record, node_record, top}
use Rattle.promise.specs.Cover.{RightLeaf, Blank}

-- The token that parse state s sees at a place: the leaf that is right there, whether or not it is shifted in s; or the end of the text.
pub data Token (img text : List ℕ) (s place : ℕ) : ℕ → Type 0 where
  word : {terminal : ℕ} (size : ℕ) → RightLeaf img text terminal place size s → Token img text s place terminal
  at_end_of_text : length text ≤ place → Token img text s place end_of_text

-- What a parse has come to: the stack, top first, the words of its records, and the place up to which it has read.
pub record Reached : Type 0 where
  pub stack : List ℕ
  pub words : List ℕ
  pub place : ℕ

abbrev pub reached : List ℕ → List ℕ → ℕ → Reached
reached stack words place = record { stack = stack; words = words; place = place }

-- One step of the way: a piece of layout, skipped in the state on top; or the action that the state on top has for the token that it sees
-- itself, a shift or a reduction.
pub data Acts (img text : List ℕ) (a : Reached) : Reached → Type 0 where
  skips : (size : ℕ) → Blank img text (top a.stack) a.place size → Acts img text a (reached a.stack a.words (a.place + size))
  shifts : (terminal size v : ℕ) → RightLeaf img text terminal a.place size (top a.stack)
      → act img (top a.stack) terminal ≡ 2 + 2 * v
      → Acts img text a (reached (v ∷ a.stack) (a.words ++ leaf_record terminal a.place size (top a.stack)) (a.place + size))
  reduces : (terminal p v : ℕ) → Token img text (top a.stack) a.place terminal → act img (top a.stack) terminal ≡ 3 + 2 * p
      → len img p < length a.stack → goto img (top (drop (len img p) a.stack)) (lhs img p) ≡ 1 + v
      → Acts img text a
      (reached (v ∷ drop (len img p) a.stack) (a.words ++ node_record img p (top (drop (len img p) a.stack))) a.place)

-- The way from the start.
pub data Way (img text : List ℕ) : Reached → Type 0 where
  begin : Way img text (reached (0 ∷ []) [] 0)
  on : {a b : Reached} → Way img text a → Acts img text a b → Way img text b

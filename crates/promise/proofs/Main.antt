-- What is promised, a page for the visitor: each theorem with its full statement, and where it is proved. Beside these, every function of
-- every crate is proved to meet its contract, which says that its result is the definition's. Assumes nothing.
use mathlib.Core.Path.{◌≡◌}
use mathlib.Core.Bool.{false}
use mathlib.Core.List.{List, [], ◌∷◌, ◌++◌}
use Prim.Native.Nat.{ℕ, ◌+◌, ◌*◌, ◌<◌, ◌≤◌}
use lib.Dec.{T}
use lib.ListN.{length, get_or, take, drop}
use Rattle.sets.specs.Sets.{has, meet}
use Rattle.numbers.specs.Codes.{done, no_group, stuck, longest_text, no_terminal}
use Rattle.pack.specs.Image.{terminals, scan_states, dom, act, acc, needed, largest_image, first_nonterminal}
use Rattle.pack.specs.Laid.{Sized}
use Rattle.numbers.specs.Verdicts.{Good}
use Rattle.shape.specs.Shape.{shape}
use Rattle.shape.proofs.Good as Shape
use Rattle.conditions.specs.Conditions.{K1, K2, Passes, matched}
use Rattle.conditions.specs.Check.{plain, FirstFails, passed, failed, check}
use Rattle.conditions.specs.declared.Checked.{Checked}
use Rattle.conditions.proofs.Answers as Check
use Rattle.scan.specs.Scan.{scan}
use Rattle.scan.specs.Matching.{Matches, Last}
use Rattle.scan.proofs.Theory as Scan
use Rattle.scan.proofs.Longest as Longest
use Rattle.text.specs.declared.Form.{Form}
use Rattle.text.specs.Reader.{all, read_in, form_of, read_all, read}
use Rattle.text.specs.Reform.{reform}
use Rattle.text.specs.Writer.{text_of, write}
use Rattle.text.proofs.RoundTrip as Text
use Rattle.text.proofs.Reform as Reform
use Rattle.look.specs.declared.Spot.{Spot}
use Rattle.look.specs.Look.{Looked}
use Rattle.look.specs.Look.{look}
use Rattle.records.specs.declared.Parsed.{Parsed}
use Rattle.parse.specs.Leaf.{part}
use Rattle.parse.specs.Parse.{record_words, leaf_record, Ending, run, start, parse, tree_after}
use Rattle.promise.specs.Cover.{RightLeaf, Blank, Covers}
use Rattle.promise.specs.Refusal.{Outdone}
use Rattle.promise.specs.Promised.{Accepted, Refused, Given, Promised, Halts, Own, Alike}
use Rattle.promise.specs.RightLook.{RightLook}
use Rattle.promise.specs.Together.{Competes, Longest, Reads}
use Rattle.promise.specs.Way.{reached, Way}
use Rattle.promise.specs.WrongLooks.{tiny, tiny_text, kept, filtered, slashes, slashes_text, layout_first}
use Rattle.promise.specs.SmallPack.{small}
use Rattle.promise.specs.Marked.{cases, all_right}
use Rattle.promise.proofs.Records.{word_of, LeafAt}
use Rattle.promise.proofs.Records as Records
use Rattle.promise.proofs.Promised as Third
use Rattle.promise.proofs.Entry as Entry
use Rattle.promise.proofs.Letter as Letter
use Rattle.promise.proofs.Looks.{Any}
use Rattle.promise.proofs.Looks as Looks
use Rattle.promise.proofs.One as One
use Rattle.promise.proofs.Slashes as Slashes
use Rattle.promise.proofs.Together as Together
use Rattle.promise.proofs.WrongLooks as Wrong
use Rattle.promise.proofs.Marked as Marked
use Rattle.promise.proofs.Passing as Passing

-- ---- the image and its text

-- No pack is larger than 20,589 words.
pub largest : (img : List ℕ) → Sized img → needed img ≤ largest_image
largest = Shape.largest_image_lem

-- Each of the two texts of an image of good shape is read back as that image, where text limit and room suffice.
pub image_read : (img : List ℕ) → shape img ≡ Good → ((i : ℕ) → get_or img i 0 < 65536) → (form : Form) (buffer : List ℕ) → length (text_of form img) ≤ longest_text
    → length img ≤ length buffer → read (text_of form img) buffer ≡ record { answer = record { code = done; number = length img }; written = img }
image_read = Text.image_read

-- A text that was read is written back byte for byte in its own form, where there is room.
pub text_written : (text buffer out : List ℕ) → (read text buffer).answer.code ≡ done → length text ≤ length out
    → write (form_of text) (read text buffer).written out ≡ record { answer = record { code = done; number = length text }; written = text }
text_written = Text.text_written

-- What was read has good shape; no two texts of a form have one image, and no text has two.
pub shape-read : (text buffer : List ℕ) → (read text buffer).answer.code ≡ done → shape (read text buffer).written ≡ Good
shape-read = Text.shape-read

pub one_text : (form : Form) (a b words : List ℕ) → read_in form a ≡ all words [] → read_in form b ≡ all words [] → a ≡ b
one_text = Text.one_text

pub one_image : (text a b : List ℕ) → read_all text ≡ all a [] → read_all text ≡ all b [] → a ≡ b
one_image = Text.one_image

-- Where both texts of an image fit the limit, a move from one comes to the other; and a text that was moved returns to its own bytes.
pub image_moved : (from to : Form) (img buffer : List ℕ) → shape img ≡ Good → ((i : ℕ) → get_or img i 0 < 65536) → length (text_of from img) ≤ longest_text
    → length (text_of to img) ≤ longest_text → length (text_of to img) ≤ length buffer
    → reform from to (text_of from img) buffer ≡ record { answer = record { code = done; number = length (text_of to img) }; written = text_of to img }
image_moved = Reform.image_moves

pub text_returns : (from to : Form) (text buffer out : List ℕ) → (reform from to text buffer).answer.code ≡ done → length text ≤ length out
    → reform to from (reform from to text buffer).written out ≡ record { answer = record { code = done; number = length text }; written = text }
text_returns = Reform.returns

-- ---- the scan

-- Bounds of every scan, for any image.
pub scan_stops : (img : List ℕ) (v allowance : ℕ) (bytes : List ℕ) → Scan.Stopped v allowance (length bytes) (scan img v allowance bytes)
scan_stops = Scan.scan_stops

-- With K2 a match ends at the last length at which, reading on, a terminal of the set is accepted or rejected, and is what is accepted
-- there; where there is no match, that last length only rejects. With K1 nothing that matches the same bytes outranks it.
module _ (img : List ℕ) (good : shape img ≡ Good) where
  pub match_is_last : ((q : ℕ) → q < scan_states img → K2 img q) → (v allowance : ℕ) (bytes : List ℕ) → (scan img v allowance bytes).spent ≡ false
      → ((scan img v allowance bytes).set ≡ 0 → ⊥)
      → (q : ℕ) × Last img bytes v (scan img v allowance bytes).length q × ((scan img v allowance bytes).set ≡ meet (acc img q) v)
  match_is_last k2 = Longest.match_is_last img good k2

  pub no_match_rejects : ((q : ℕ) → q < scan_states img → K2 img q) → (v allowance : ℕ) (bytes : List ℕ) → (scan img v allowance bytes).spent ≡ false
      → (scan img v allowance bytes).set ≡ 0 → (n q : ℕ) → Last img bytes v n q → meet (acc img q) v ≡ 0
  no_match_rejects k2 = Longest.no_match_rejects img good k2

  pub accepted_alone : (q : ℕ) → q < scan_states img → K1 img q → (t u : ℕ) → t < terminals img → has (acc img q) t ≡ 1 → has (dom img t) u ≡ 1
      → has (matched img q) u ≡ 1 → ⊥
  accepted_alone = Longest.accepted_alone img good

-- ---- the check

-- It gives zeros exactly where shape is good and the six conditions hold; and code 5 exactly for the first that fails, at its least places.
pub checked_passes : (img : List ℕ) → check img ≡ passed → Passes img
checked_passes = Check.checked_passes

pub passes_checked : (img : List ℕ) → Passes img → check img ≡ passed
passes_checked = Check.passes_checked

pub fails_first : (img : List ℕ) {condition first second : ℕ} → check img ≡ failed condition first second → (shape img ≡ Good) × FirstFails img plain condition first second
fails_first = Check.fails_first

pub fails_checked : (img : List ℕ) {condition first second : ℕ} → shape img ≡ Good → FirstFails img plain condition first second → check img ≡ failed condition first second
unfolding check
fails_checked = Check.fails_checked plain

-- ---- the parse, by a pack that passes: the third demand of the letter

-- All of it, and what holds where the parse does not accept.
pub promised : (img : List ℕ) → Passes img → (text tree : List ℕ) (allowance : ℕ) → Promised img text (parse img text tree allowance)
promised = Third.promised

-- For every pack that the check gives zeros for.
module _ (img : List ℕ) (checked : check img ≡ passed) (text tree : List ℕ) (allowance : ℕ) where
  pub never_stuck : (parse img text tree allowance).parsed.code ≡ stuck → ⊥
  never_stuck = (Third.promised_checked img checked text tree allowance).never_stuck

  pub never_two : (parse img text tree allowance).parsed.code ≡ no_group → ⊥
  never_two = (Third.promised_checked img checked text tree allowance).never_two

  pub accepted : (parse img text tree allowance).parsed.code ≡ done → Accepted img text (parse img text tree allowance).words
  accepted = (Third.promised_checked img checked text tree allowance).accepted

  pub refused : no_terminal ≤ (parse img text tree allowance).parsed.code → Refused img text (parse img text tree allowance)
  refused = (Third.promised_checked img checked text tree allowance).refused

  -- Its codes are 0, 6, 7, 8, 11, 12 and 13.
  pub codes : Given (parse img text tree allowance).parsed.code
  codes = (Third.promised_checked img checked text tree allowance).codes

  -- `group` where the keyword is not allowed is not read as the names `grou` and `p`: where the tables come to such a place, no parse gets
  -- further, and one that is not cut short by the limits of text, tree, stack or allowance is refused there, with 7 or 8.
  pub halts : {state place : ℕ} {below words : List ℕ} → Way img text (reached (state ∷ below) words place)
      → Outdone img text state place → Halts words place (parse img text tree allowance)
  halts way outdone = Letter.halts img (Check.checked_passes img checked) text way outdone (Third.promised_checked img checked text tree allowance)

-- The same of the functions themselves, by their contracts alone: of what `check` gave, and of what `parse` returned and left in the tree.
module _ (img text tree tree' : List ℕ) (allowance : ℕ) (c : Checked) (r : Parsed) (checks : c ≡ check img) (zeros : c ≡ passed)
    (gives : r ≡ (parse img text tree allowance).parsed) (leaves : tree' ≡ tree_after tree (parse img text tree allowance)) where
  pub returns_no_stuck : r.code ≡ stuck → ⊥
  returns_no_stuck = Entry.never_stuck img text tree tree' allowance c r checks zeros gives leaves

  pub returns_no_two : r.code ≡ no_group → ⊥
  returns_no_two = Entry.never_two img text tree tree' allowance c r checks zeros gives leaves

  pub leaves_derivation : r.code ≡ done → Accepted img text (take (r.records * record_words) tree')
  leaves_derivation = Entry.accepted img text tree tree' allowance c r checks zeros gives leaves

  pub leaves_trees : no_terminal ≤ r.code → Refused img text (record { parsed = r; words = take (r.records * record_words) tree' })
  leaves_trees = Entry.refused img text tree tree' allowance c r checks zeros gives leaves

  pub returns_codes : Given r.code
  returns_codes = Entry.codes img text tree tree' allowance c r checks zeros gives leaves

  pub halts_there : {words : List ℕ} {place : ℕ} → Halts words place (parse img text tree allowance)
      → Halts words place (record { parsed = r; words = take (r.records * record_words) tree' })
  halts_there = Entry.halted img text tree tree' allowance c r checks zeros gives leaves

-- On the way of the tables a text has one derivation.
pub one_derivation : (img : List ℕ) → Passes img → (text : List ℕ) {a b : List ℕ} → Accepted img text a → Accepted img text b → a ≡ b
one_derivation = One.one_derivation

-- Two parses of one text that are not cut short end alike, whatever their rooms and allowances.
pub one_answer : (img : List ℕ) → check img ≡ passed → (text tree tree' : List ℕ) (allowance allowance' : ℕ) → Own (parse img text tree allowance).parsed.code
    → Own (parse img text tree' allowance').parsed.code → Alike (parse img text tree allowance) (parse img text tree' allowance')
one_answer = One.one_answer

-- Packs that pass are there: the small one does.
pub small_passes : Passes small
small_passes = Passing.small_passes

-- The same for every way of looking for the next token that is right.
pub promised_run : (img : List ℕ) → Passes img → (text : List ℕ) {Fits : ℕ → Spot → Type 0} {looks : ℕ → Spot → Looked} → RightLook img text Fits looks
    → (room : ℕ) → Promised img text (run img looks room start)
promised_run = Third.promised_run

-- The look that the parse runs with is one, whatever the allowance: it asks nothing of state and spot.
pub right_look : (img : List ℕ) → Passes img → (text : List ℕ) (allowance : ℕ) → RightLook img text Any (look img text allowance)
right_look = Looks.right_look

-- The longest match over all terminals, filtered afterwards, is not right; nor is a token kept across a reduction; nor layout skipped first.
pub filtered_is_wrong : {Fits : ℕ → Spot → Type 0} → RightLook tiny tiny_text Fits filtered → ⊥
filtered_is_wrong = Wrong.filtered_is_wrong

pub kept_is_wrong : {Fits : ℕ → Spot → Type 0} → RightLook tiny tiny_text Fits kept → ⊥
kept_is_wrong = Wrong.kept_is_wrong

pub layout_first_is_wrong : {Fits : ℕ → Spot → Type 0} → RightLook slashes slashes_text Fits layout_first → ⊥
layout_first_is_wrong = Wrong.layout_first_is_wrong

-- Each leaf by the numbers of its record; and none begins where all that match last, of those valid in its state and layout, are outranked.
pub every_leaf : {img text words : List ℕ} {place : ℕ} → Covers img text words place → (i : ℕ) → i * record_words < length words → word_of words i 0 < first_nonterminal
    → LeafAt img text words i
every_leaf = Records.every_leaf

pub no_record_there : {img text words : List ℕ} {place state begin : ℕ} → Outdone img text state begin → Covers img text words place → (i : ℕ) → i * record_words < length words
    → word_of words i 0 < first_nonterminal → word_of words i 1 ≡ begin → word_of words i 3 ≡ state → ⊥
no_record_there = Letter.no_record_there

-- ---- layout and tokens together

-- Where layout is skipped in a state, nothing that the state allows matches more bytes, and no layout; and where a leaf is read, likewise.
pub blank_longest : {img text : List ℕ} {state begin size : ℕ} → Blank img text state begin size → (t n : ℕ) → Competes img state t → n ≤ length (drop begin text)
    → Matches img (part text begin n) t → n ≤ size
blank_longest = Together.blank_longest

pub leaf_longest : {img text : List ℕ} {terminal begin size state : ℕ} → RightLeaf img text terminal begin size state → (t n : ℕ) → Competes img state t
    → n ≤ length (drop begin text) → Matches img (part text begin n) t → n ≤ size
leaf_longest = Together.leaf_longest

-- Where an operator and a comment begin alike, and the operator is allowed and longer, it is the leaf that is right there, and is read.
module _ (img : List ℕ) (passes : Passes img) (text : List ℕ) where
  pub longest_right : {operator begin size state : ℕ} → Longest img text operator begin size state → RightLeaf img text operator begin size state
  longest_right = Together.longest_right img passes text

  pub operator_read : {Fits : ℕ → Spot → Type 0} {looks : ℕ → Spot → Looked} → RightLook img text Fits looks → {operator size state : ℕ} (at : Spot) → Fits state at
      → Longest img text operator at.place size state → Reads operator at.place size (looks state at)
  operator_read = Together.operator_read img passes text

  -- Where a leaf is right, alone or chosen by a group, no layout is skipped; every right look reads it, unless the allowance is used up; and
  -- where the tables come there and shift it, it is a leaf of the derivation, and is kept by a parse that is refused further on.
  pub nothing_skipped : {terminal begin n size state : ℕ} → RightLeaf img text terminal begin size state → Blank img text state begin n → ⊥
  nothing_skipped = Together.nothing_skipped img passes text

  pub leaf_read : {Fits : ℕ → Spot → Type 0} {looks : ℕ → Spot → Looked} → RightLook img text Fits looks → {terminal size state : ℕ} (at : Spot) → Fits state at
      → RightLeaf img text terminal at.place size state → Reads terminal at.place size (looks state at)
  leaf_read = Together.leaf_read img passes text

  pub leaf_derived : {terminal begin size state : ℕ} {below words all_words : List ℕ} (v : ℕ) → Way img text (reached (state ∷ below) words begin)
      → RightLeaf img text terminal begin size state → act img state terminal ≡ 2 + 2 * v → Accepted img text all_words
      → (rest : List ℕ) × (all_words ≡ (words ++ leaf_record terminal begin size state) ++ rest)
  leaf_derived = Together.leaf_derived img passes text

  pub leaf_kept : {terminal begin size state : ℕ} {below words : List ℕ} (v : ℕ) → Way img text (reached (state ∷ below) words begin)
      → RightLeaf img text terminal begin size state → act img state terminal ≡ 2 + 2 * v → {e : Ending} → Refused img text e → begin < e.parsed.place
      → (rest : List ℕ) × (e.words ≡ (words ++ leaf_record terminal begin size state) ++ rest)
  leaf_kept = Together.leaf_kept img passes text

-- Such operators are there: `//=` is one, where a comment begins with `//`; and the look that the parse runs with reads it, unless the
-- allowance is used up.
pub slashes_longest : Longest slashes slashes_text 1 0 3 0
slashes_longest = Slashes.slashes_longest

pub slashes_read : (allowance : ℕ) → Reads 1 0 3 (look slashes slashes_text allowance 0 start.at)
slashes_read = Slashes.slashes_read

-- ---- the marked cases, one table

pub marked : T (all_right cases)
marked = Marked.marked

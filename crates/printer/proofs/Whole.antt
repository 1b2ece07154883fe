-- The whole printout: which of its four answers is due, and what is given and left. Assumes nothing.
use mathlib.Core.Path.{◌≡◌, refl, sym, ap, ◌∙◌}
use mathlib.Core.Bool.{Bool, true, false}
use mathlib.Core.List.{List, [], ◌∷◌}
use Prim.Native.Nat.{ℕ, ◌+◌, ◌*◌, ◌-◌, ◌/◌, ◌<◌, ◌≤◌, min}
use native.Mathlib.Omega.{arith}
use lib.Dec.{ltb}
use lib.ListN.{length, get_or}
use borrow.Author.Tests.{ltb-true, ltb-false}
use Rattle.numbers.specs.Codes.{done, room_too_small}
use Rattle.numbers.specs.declared.Answer.{Answer}
use Rattle.numbers.specs.Front.{Delivery, refuse, deliver, buffer_after}
use Rattle.numbers.proofs.Laws.{answer, deliver_none, deliver_all}
use Rattle.parse.specs.Parse.{record_words}
use Rattle.print.specs.Print.{Tree, leaf, depth, show, Standing, nothing, standing, not_one_tree, too_deep, most_nodes, greatest_number, told, print_tree, print_one, print}
use Rattle.print.proofs.Records.{left_over}
use Rattle.printwalk.specs.declared.Cursor.{Cursor}
use Rattle.measure.specs.Steps.{Sound, tree_at, trees_before, height_of, Measured, Measures}
use Rattle.printwalk.specs.Steps.{Room, Prints}
use Rattle.measure.proofs.Heights.{height_some, height_sound}
use Rattle.measure.proofs.Trees.{at_end}

-- These are the answer and the buffer of a printout.
abbrev pub Gives : Delivery → List ℕ → List ℕ → Answer → Type 0
Gives d buffer buffer' r = (r ≡ d.answer) × (buffer' ≡ buffer_after buffer d)

refused : {d : Delivery} {code number : ℕ} (buffer : List ℕ) → d ≡ refuse code number → Gives d buffer buffer (answer code number)
refused buffer e = rw e (refl, refl)

none_one : (trees : List Tree) (room : ℕ) → (length trees ≡ 1 → ⊥) → print_one trees room ≡ refuse not_one_tree 0
unfolding print_one
none_one [] room n = refl
none_one (t ∷ []) room n = absurd (n refl)
none_one (t ∷ u ∷ others) room n = refl

just_one : (trees : List Tree) (room : ℕ) → length trees ≡ 1 → print_one trees room ≡ print_tree (get_or trees 0 (leaf 0 [])) room
unfolding print_one
just_one [] room e = absurd (omega (arith, e))
just_one (t ∷ []) room e = refl
just_one (t ∷ u ∷ others) room e = absurd (omega (arith, e))

module _ (text tree buffer : List ℕ) where
  pub unsound : (standing text tree nothing).sound ≡ false → Gives (print text tree (length buffer)) buffer buffer (answer not_one_tree 0)
  unfolding print
  unsound f = refused buffer (simp (print, f))

  pub not_one : {h : ℕ} → ((standing text tree nothing).sound ≡ true) × (h ≡ height_of (standing text tree nothing)) → (h ≡ 1 → ⊥)
      → Gives (print text tree (length buffer)) buffer buffer (answer not_one_tree 0)
  unfolding print
  not_one p n = refused buffer (simp (print, p.0) (none_one _ (length buffer) (λ z. n (p.1 ∙ height_sound _ p.0 ∙ z))))

module _ (text tree : List ℕ) {h : ℕ} (e : h ≡ height_of (standing text tree nothing)) where
  module _ (one : h ≡ 1) where
    abbrev last : ℕ
    last = length tree / record_words - 1

    stands : ((standing text tree nothing).sound ≡ true) × (h ≡ length (standing text tree nothing).trees)
    stands = height_some (standing text tree nothing) e (λ z. omega (arith, one, z))

    no_words : length tree ≡ 0 → ⊥
    unfolding standing
    no_words z = go tree z (sym stands.1 ∙ one)
      where
        go : (words : List ℕ) → length words ≡ 0 → length (standing text words nothing).trees ≡ 1 → ⊥
        go [] y x = omega (arith, x)
        go (a ∷ words) y x = omega (arith, y)

    records : length tree ≡ length tree / record_words * record_words
    records = go (ltb (length tree / record_words * record_words) (length tree)) refl
      where
        go : (x : Bool) → ltb (length tree / record_words * record_words) (length tree) ≡ x → length tree ≡ length tree / record_words * record_words
        go true f = absurd (left_over text tree nothing (length tree / record_words) (ltb-true _ _ f) (omega arith) stands.0)
        go false f = let l = ltb-false (length tree / record_words * record_words) (length tree) f in omega arith

    pub some_record : 1 ≤ length tree / record_words
    some_record = omega (arith, records, no_words)

    end : length tree ≡ (last + 1) * record_words
    end = omega (arith, records, some_record)

    pub last_sound : Sound text tree (last + 1)
    last_sound = record { there = omega (arith, end); sound = ap (λ (s : Standing). s.sound) (at_end text tree (last + 1) end) ∙ stands.0 }

    the_tree : (room : ℕ) → print text tree room ≡ print_tree (tree_at text tree last) room
    unfolding print
    the_tree room =
        simp (print, stands.0) (just_one (standing text tree nothing).trees room (sym stands.1 ∙ one))
        ∙ ap (λ (s : Standing). print_tree (get_or s.trees 0 (leaf 0 [])) room) (sym (at_end text tree (last + 1) end))

    module _ {m : Measured} (q : Measures text tree last most_nodes 0 (show (tree_at text tree last)) (depth (tree_at text tree last)) (trees_before text tree last) m) where
      pub too_deep_lem : (buffer : List ℕ) → m.deep ≡ true → Gives (print text tree (length buffer)) buffer buffer (answer too_deep 0)
      unfolding print_tree
      too_deep_lem buffer f = refused buffer (the_tree (length buffer) ∙ simp (print_tree, sym q.deep ∙ f))

      module _ (f : m.deep ≡ false) where
        delivered : (room : ℕ) → print text tree room ≡ told (deliver (show (tree_at text tree last)) room)
        unfolding print_tree
        delivered room = the_tree room ∙ simp (print_tree, sym q.deep ∙ f)

        pub too_small : (buffer : List ℕ) → length buffer < m.size → Gives (print text tree (length buffer)) buffer buffer (answer room_too_small m.size)
        too_small buffer l =
            let g = q.grown f in
            let z : min (length (show (tree_at text tree last))) greatest_number ≡ m.size = omega (arith, g) in
            refused buffer (delivered (length buffer) ∙ rw (deliver_none (show (tree_at text tree last)) (length buffer) (omega (arith, g, l)), z))

        module _ (buffer : List ℕ) (short : length buffer < greatest_number) (l : m.size ≤ length buffer) where
          exact : m.size ≡ length (show (tree_at text tree last))
          exact = omega (arith, q.grown f, short, l)

          pub print_room : Room (show (tree_at text tree last)) buffer m.size
          print_room = record { fits = omega (arith, exact); within = l }

          pub printed : {buffer' : List ℕ} {c : Cursor} → Prints text tree last (show (tree_at text tree last)) (trees_before text tree last) buffer m.size buffer' c
              → Gives (print text tree (length buffer)) buffer buffer' (answer done m.size)
          printed {c = c} p =
              let z : min (length (show (tree_at text tree last))) greatest_number ≡ m.size = omega (arith, exact, short, l) in
              let y : c.at ≡ 0 = omega (arith, p.wrote.begins, exact) in
              rw (delivered (length buffer), deliver_all (show (tree_at text tree last)) (length buffer) (omega (arith, exact, l)), z)
              (refl, p.wrote.holds ∙ rw (y, exact))

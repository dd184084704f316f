-- A program whose number literals are words has words, by the list of its literals.
use Rattle.std.proofs.Common.{subst, ℕ, zero, suc, ◌+◌, ◌<◌, ◌≤◌, List, [], ◌∷◌, ◌++◌, ◌^◌, length, get_or, Option}
use Rattle.std.proofs.Common.{Some, None, arith, length-append}
use Rattle.std.proofs.lemmas.List.{get_or_append_left, get_or-append-add}
use Rattle.std.specs.Prelude.{All}
use Rattle.std.specs.List.{flat_map}
use Rattle.roopl_semantics.specs.rpp_tree.Tree.{Expression, Number, Null, Variable, Element, Binary, Lvalue, Whole, Item, Creation}
use Rattle.roopl_semantics.specs.rpp_tree.Tree.{Object, Ints, Objects, Statements, Source, TreePart, Operand, Target, Typed, Creates}
use Rattle.roopl_semantics.specs.rpp_tree.Tree.{Invokes}
use Rattle.roopl_semantics.specs.rpp_tree.declared.limits.TheConstants.{MOST_NUMBER}
use Rattle.roopl_semantics.specs.rpp_tree.Numbers.{expression_numbers, lvalue_numbers, receiver_numbers, creation_numbers}
use Rattle.roopl_semantics.specs.rpp_tree.Numbers.{part_numbers, numbers, block_numbers, procedure_numbers, class_numbers}
use Rattle.roopl_semantics.specs.rpp_tree.Numbers.{source_numbers}
use Rattle.roopl_semantics.proofs.rpp_tree_laws.Walks.{AreRelated, block_related, parts_related}
use Rattle.meaning_sound.specs.Plain.{HasWords, PlaceHasWords, CreationHasWords, ReceiverHasWords, PartHasWords}
use Rattle.meaning_sound.specs.Plain.{all_words, BlockHasWords, ProgramHasWords}

abbrev Small : List ℕ → Type 0
Small words = All (λ (w : ℕ). w ≤ MOST_NUMBER) words

left : (xs ys : List ℕ) → Small (xs ++ ys) → Small xs
left xs ys h k d l = subst (λ w. w ≤ MOST_NUMBER) (get_or_append_left xs ys d k l)
    (h k d (omega (arith, length-append xs ys)))

right : (xs ys : List ℕ) → Small (xs ++ ys) → Small ys
right xs ys h k d l = subst (λ w. w ≤ MOST_NUMBER) (get_or-append-add xs ys k d)
    (h (length xs + k) d (omega (arith, length-append xs ys)))

flat : {B : Type 0} (f : B → List ℕ) (xs : List B) (k : ℕ) (d : B) → Small (flat_map f xs) → k < length xs
    → Small (f (get_or xs k d))
flat f [] k d h l = absurd (omega arith)
flat f (x ∷ xs) zero d h l = left (f x) (flat_map f xs) h
flat f (x ∷ xs) (suc k) d h l = flat f xs k d (right (f x) (flat_map f xs) h) (omega arith)

word_of : (w : ℕ) → w ≤ MOST_NUMBER → w < 2 ^ 32
word_of w h = omega (arith, h)

has_words : (e : Expression) → Small (expression_numbers e) → HasWords e
has_words (Number at word) h = word_of word (h 0 0 (omega arith))
has_words (Null at) h = tt
has_words (Variable name) h = tt
has_words (Element name index) h = has_words index h
has_words (Binary at op a b) h = (
  has_words a (left (expression_numbers a) (expression_numbers b) h),
  has_words b (right (expression_numbers a) (expression_numbers b) h),
)

place_words : (p : Lvalue) → Small (lvalue_numbers p) → PlaceHasWords p
place_words (Whole name) h = tt
place_words (Item name index) h = has_words index h

creation_words : (m : Creation) → Small (creation_numbers m) → CreationHasWords m
creation_words (Object class) h = tt
creation_words (Ints size) h = has_words size h
creation_words (Objects class size) h = has_words size h

receiver_words : (r : Option Lvalue) → Small (receiver_numbers r) → ReceiverHasWords r
receiver_words None h = tt
receiver_words (Some place) h = place_words place h

part_words : (p : TreePart) → Small (part_numbers p) → PartHasWords (λ receiver args. ReceiverHasWords receiver) p
part_words (Operand value) h = has_words value h
part_words (Target place) h = place_words place h
part_words (Typed kind place) h = place_words place h
part_words (Creates made) h = creation_words made h
part_words (Invokes receiver method args) h = receiver_words receiver h

-- a fact of small literals
abbrev Given : List ℕ → Type 0 → Type 0
Given words A = Small words → A

both_given : (xs ys : List ℕ) (A B : Type 0) → Given xs A → Given ys B → Given (xs ++ ys) (A × B)
both_given xs ys A B f g h = (f (left xs ys h), g (right xs ys h))

words_given : AreRelated Given numbers all_words
words_given = record {
  plain = λ at parts. parts_related Given ◌++◌ (λ (A B : Type 0). A × B) part_numbers
      (PartHasWords (λ receiver args. ReceiverHasWords receiver)) [] (Unit {0})
      (λ xs ys A B f g. both_given xs ys A B f g) part_words (λ h. tt) parts;
  forked = λ at before xs ys A B after f g h.
      let a = left (expression_numbers before ++ xs ++ ys) (expression_numbers after) h in
      let b = left (expression_numbers before ++ xs) ys a in (
        has_words before (left (expression_numbers before) xs b),
        f (right (expression_numbers before) xs b),
        g (right (expression_numbers before ++ xs) ys a),
        has_words after (right (expression_numbers before ++ xs ++ ys) (expression_numbers after) h),
      );
  construct = λ at class name xs A end f. f;
  local = λ at var value xs A end_var end_value f h.
      let a = left (expression_numbers value ++ xs) (expression_numbers end_value) h in (
        has_words value (left (expression_numbers value) xs a),
        f (right (expression_numbers value) xs a),
        has_words end_value (right (expression_numbers value ++ xs) (expression_numbers end_value) h),
      );
  none = λ h. tt;
  next = λ first xs ys A B f g. both_given xs ys A B f g;
}

block_words : (body : Statements) → Small (block_numbers body) → BlockHasWords body
block_words body = block_related words_given body

pub program_words : (program : Source) → All (λ (w : ℕ). w ≤ MOST_NUMBER) (source_numbers program)
    → ProgramHasWords program
program_words program h k d l j e i =
    let class = get_or program.classes k d in
    block_words (get_or class.methods j e).body (flat procedure_numbers class.methods j e
    (flat class_numbers program.classes k d h l) i)

-- What holds for the lengths of a run's arrays.
use Rattle.std.specs.Prelude.{◌≡◌, ℕ, Bool, true, false, length, Some}
use Rattle.meaning_reached.specs.rpp_words.Words.{is_less}
use Rattle.meaning_reached.specs.roopl_semantics.Store.{Head, OfClass, OfInts, OfObjects, Object, Store}
use Rattle.meaning_reached.specs.roopl_semantics.Store.{object_named}

-- whether this is the head of an object, and not of an array
abbrev pub is_class_head : Head → Bool
is_class_head (OfClass class) = true
is_class_head (OfInts length) = false
is_class_head (OfObjects class length) = false

-- each array has an element, and no more than a positive word can say
pub record ArraysHaveElements (store : Store) : Type 0 where
  pub long : (name : ℕ) (object : Object) → object_named store name ≡ Some object
      → is_class_head object.head ≡ false
      → is_less (length object.cells) 1 ≡ false

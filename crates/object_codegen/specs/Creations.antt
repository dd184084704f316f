-- What the code of a `new` does, by what it makes.
use Rattle.std.specs.Prelude.{ℕ, ◌+◌, ◌*◌, List, length}
use Rattle.std.specs.Option.{unwrap_or}
use Rattle.refine_heap.specs.rpp_tree.declared.tree.Ident.{Ident}
use Rattle.refine_heap.specs.rpp_tree.Tree.{Lvalue, Creation, Object, Ints, Objects, Source}
use Rattle.refine_heap.specs.class_rules.Classes.{class_number, class_fields}
use Rattle.refine_heap.specs.buddy_book.Book.{order_for}
use Rattle.refine_heap.specs.code_conventions.declared.memory.TheConstants.{HEADER_WORDS}
use Rattle.refine_heap.specs.paired_code.declared.part.Symbol.{Symbol}
use Rattle.static_layout.specs.roopl_semantics.Layout.{table_at}
use Rattle.expr_uncompute.specs.refine_form.declared.spot.Spot.{Spot}
use Rattle.expr_uncompute.specs.register_expressions.Code.{words}
use Rattle.expr_uncompute.specs.Code.{place_words}
use Rattle.expr_uncompute.specs.register_expressions.Steps.{token_count}
use Rattle.expr_uncompute.specs.Steps.{place_tokens}
use Rattle.object_codegen.specs.News.{ObjectLaw, ArrayLaw}

-- the number of the class of a name, and the number of its fields
abbrev pub created_class : Source → Ident → ℕ
created_class program class = unwrap_or (class_number program class.text) 0

abbrev pub created_fields : Source → Ident → ℕ
created_fields program class = length (class_fields program (created_class program class))

-- how many words of the frame it needs
abbrev pub creation_words : Creation → Lvalue → ℕ
creation_words (Object class) target = place_words target
creation_words (Ints size) target = place_words target + words size
creation_words (Objects class size) target = place_words target + words size

-- the most cells that it has
abbrev pub creation_size : Creation → Lvalue → ℕ
creation_size (Object class) target = 86 + 80 * (1 + place_tokens target)
creation_size (Ints size) target = 164 + 80 * (place_tokens target + token_count size)
creation_size (Objects class size) target = 164 + 80 * (place_tokens target + token_count size)

-- an object has the address of its class's table, and so many cells as the class has fields
abbrev pub NewLaw : Source → (List ℕ → Spot) → ℕ → Creation → Lvalue → List Symbol → Type 0
NewLaw program spot free (Object class) target p =
    ObjectLaw spot free (table_at program (created_class program class)) (created_fields program class)
    (order_for (HEADER_WORDS + created_fields program class)) target p
NewLaw program spot free (Ints size) target p = ArrayLaw spot free target size p
NewLaw program spot free (Objects class size) target p = ArrayLaw spot free target size p

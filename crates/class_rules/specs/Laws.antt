-- What the definitions mean.
use Rattle.std.specs.Prelude.{◌≡◌, ℕ, ◌<◌, List, length, Option, Some, None, slice_get}
use Rattle.rpp_tree.specs.Tree.{ClassText, Source}
use Rattle.class_rules.specs.Refusal.{Refusal}
use Rattle.class_rules.specs.First.{first_in}
use Rattle.class_rules.specs.Chains.{parents, chain, chain_of}
use Rattle.class_rules.specs.Table.{table_of, fields_in, slots_in, inherits_in}
use Rattle.class_rules.specs.Classes.{class_fields, class_slots, inherits}

-- the element at this number is refused so, and none before it
pub record IsRefusedFirst {A E : Type 0} (rule : A → Option E) (xs : List A) (error : E) : Type 0
  where
    pub number : ℕ
    pub element : A
    pub there : slice_get xs number ≡ Some element
    pub refused : rule element ≡ Some error
    pub passed : (k : ℕ) (x : A) → k < number → slice_get xs k ≡ Some x → rule x ≡ None

-- what `first_in` names is refused first
abbrev pub FirstIsFirst : Type 0
FirstIsFirst = (rule : ClassText → Option Refusal) (classes : List ClassText)
    (error : Refusal) → first_in rule classes ≡ Some error → IsRefusedFirst rule classes error

-- a chain of parents that ends at all ends within as many steps as there are classes
abbrev pub ChainEndsWithin : Type 0
ChainEndsWithin = (program : Source) (class steps : ℕ) (line : List ℕ)
    → class < length program.classes → chain steps (parents program) (Some class) ≡ Some line
    → chain_of program class ≡ Some line

-- the table's functions return only what the list of classes says
pub record ReadsClasses (program : Source) (class : ℕ) : Type 0 where
  pub fields : fields_in (table_of program) class ≡ class_fields program class
  pub slots : slots_in (table_of program) class ≡ class_slots program class
  pub inherits : (from : ℕ) → inherits_in (table_of program) class from
      ≡ inherits program class from

abbrev pub TableReadsClasses : Type 0
TableReadsClasses = (program : Source) (class : ℕ) → class < length program.classes
    → ReadsClasses program class

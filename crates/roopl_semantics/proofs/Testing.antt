-- How worked programs are written, and what is seen of their runs.
use Rattle.std.specs.Prelude.{ℕ, List, [], ◌∷◌, ◌++◌, Option}
use Rattle.buddy_book.specs.rpp_words.declared.input.FieldWord.{FieldWord}
use Rattle.inverse_rules.specs.rpp_tree.declared.tree.Ident.{Ident}
use Rattle.inverse_rules.specs.rpp_tree.declared.tree.Var.{Var}
use Rattle.inverse_rules.specs.rpp_tree.declared.tree.VarType.{VarType}
use Rattle.inverse_rules.specs.rpp_tree.Tree.{Statement, Statements, Procedure, ClassText, Source}
use Rattle.inverse_rules.specs.rpp_tree.Views.{statements_of}
use Rattle.roopl_semantics.specs.Run.{Run, Done, Fault, More}
use Rattle.roopl_semantics.specs.Store.{State}
use Rattle.roopl_semantics.specs.Source.{source}
use Rattle.roopl_semantics.specs.Report.{Text, report}
use Rattle.buddy_book.specs.rpp_words.Texts.{line_end}

abbrev pub named : ℕ → List ℕ → Ident
named at text = record { at = at; text = text }

abbrev pub var : VarType → Ident → Var
var kind name = record { kind = kind; name = name }

abbrev pub block : List Statement → Statements
block = statements_of

abbrev pub procedure : Ident → List Var → Statements → Procedure
procedure name params body = record { name = name; params = params; body = body }

abbrev pub class_text : Ident → Option Ident → List Var → List Procedure → ClassText
class_text name parent fields methods = record { name = name; parent = parent; fields = fields; methods = methods }

abbrev pub program : List ClassText → Source
program classes = record { classes = classes }

abbrev pub word_for : ℕ → ℕ → FieldWord
word_for field word = record { field = field; word = word }

-- what a run shows: its report, or its fault, and its cost
pub data Ending : Type 0 where
  Finished : (report : Text) (cost : ℕ) → Ending
  Faulted : (code cost : ℕ) → Ending
  Unfinished : Ending

abbrev pub lines : List Text → Text
lines [] = []
lines (line ∷ rest) = line ++ line_end ++ lines rest

abbrev pub ended : Source → Run State → Ending
ended program (Done st cost) = Finished (report program st.store) cost
ended program (Fault code cost) = Faulted code cost
ended program More = Unfinished

-- a program with a heap, a depth, an input and fuel
abbrev pub ending : Source → ℕ → ℕ → List FieldWord → ℕ → Ending
ending program heap deep input fuel = ended program (source program (record { heap = heap; deep = deep }) input fuel)

-- The code's report is the report from the cells.
use Rattle.std.proofs.Common.{◌≡◌, ◌∙◌, ap, ℕ, List, arith}
use Rattle.meaning_reached.specs.rpp_tree.declared.tree.Var.{Var}
use Rattle.meaning_reached.specs.rpp_tree.Tree.{Source}
use Rattle.refine_frame.specs.class_rules.Table.{table_of}
use Rattle.refine_frame.specs.class_rules.Program.{IsAccepted}
use Rattle.static_layout.specs.roopl_semantics.Source.{main_fields}
use Rattle.static_layout.specs.roopl_semantics.Layout.{table_addresses}
use Rattle.static_layout.proofs.roopl_semantics_laws.MainPlace.{class_inside}
use Rattle.store_report.specs.Shown.{report_by}
use Rattle.store_report.specs.Told.{report_told}
use Rattle.store_report.proofs.Leading.{report_is}

pub code_tells : (program : Source) → IsAccepted program → (tables : List ℕ) (fields : List Var) (cells : List ℕ)
    → tables ≡ table_addresses program → fields ≡ main_fields program
    → report_by program (table_of program) tables fields cells ≡ report_told program cells
code_tells program accepted tables fields cells e f =
    let inside = class_inside program accepted in
    ap (λ ts. report_by program (table_of program) ts fields cells) e
    ∙ ap (λ vars. report_by program (table_of program) (table_addresses program) vars cells) f
    ∙ report_is program (omega arith) cells

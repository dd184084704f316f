-- Lines one after another.
use Rattle.std.proofs.Common.{◌≡◌, ℕ, suc, ◌+◌, ◌≤◌, sym, ap, ◌∙◌, arith, List, [], ◌∷◌, ◌++◌, append_assoc, length}
use Rattle.std.proofs.Common.{drop, Some, None}
use Rattle.std.specs.Prelude.{Result, Ok, Err, OnOk}
use Rattle.run_settings.specs.rpp_tree.declared.tree.Var.{Var}
use Rattle.std.proofs.lemmas.List.{append-nil}
use Rattle.std.proofs.lemmas.Option.{slice_get_past}
use Rattle.std.specs.Prelude.{slice_get}
use Rattle.explain_commands.proofs.Walked.{drop_at, drop_past}
use Rattle.run_settings.specs.rpp_tree.Tree.{Source}
use Rattle.store_report.specs.roopl_semantics.Store.{Value, Store, object_at}
use Rattle.store_report.specs.roopl_semantics.Report.{field_lines, object_lines}
use Rattle.store_report.specs.roopl_semantics.Report.{object_text}

pub object_next : (program : Source) (store : Store) (names : List ℕ) (name : ℕ) (rest : List ℕ)
    → object_lines program store names (name ∷ rest) ≡ object_lines program store names (name ∷ [])
    ++ object_lines program store names rest
object_next program store names name rest =
    let object = object_at store name in
    ap (λ text. text ++ object_lines program store names rest)
    (sym (append-nil (object_text program names name object)))

-- the lines of the same fields
pub lines_of : {E : Type 0} (r : Result (Unit {0}) E) (out old indent : List ℕ) (names : List ℕ) (vars same : List Var)
    (cells : List Value) → vars ≡ same
    → OnOk r (out ≡ old ++ field_lines indent names vars cells)
    → OnOk r (out ≡ old ++ field_lines indent names same cells)
lines_of (Ok u) out old indent names vars same cells e is = is ∙ ap (λ vs. old ++ field_lines indent names vs cells) e
lines_of (Err why) out old indent names vars same cells e is = tt

-- ---- the lines of objects, one after another

module _ (program : Source) (store : Store) (names : List ℕ) where
  abbrev lines : List ℕ → List ℕ
  lines rest = object_lines program store names rest

  pub lists_on : (at name : ℕ) (text new whole : List ℕ) → text ++ lines (drop at names) ≡ whole
      → slice_get names at ≡ Some name
      → new ≡ text ++ lines (name ∷ []) → new ++ lines (drop (at + 1) names) ≡ whole
  lists_on at name text new whole w e n =
      let one : at + 1 ≡ suc at = omega arith in
      ap (λ t. t ++ lines (drop (at + 1) names)) n
      ∙ ap (λ k. (text ++ lines (name ∷ [])) ++ lines (drop k names)) one
      ∙ append_assoc text (lines (name ∷ [])) (lines (drop (suc at) names))
      ∙ ap (λ t. text ++ t) (sym (object_next program store names name (drop (suc at) names)))
      ∙ ap (λ rest. text ++ lines rest) (sym (drop_at at names name e).0)
      ∙ w

  pub lists_out : (at : ℕ) (text whole : List ℕ) → text ++ lines (drop at names) ≡ whole → slice_get names at ≡ None
      → text ≡ whole
  lists_out at text whole w e = sym (append-nil text) ∙ ap (λ rest. text ++ lines rest) (sym (drop_past at names e)) ∙ w

  pub lists_all : (at size : ℕ) (text whole : List ℕ) → text ++ lines (drop at names) ≡ whole → size ≡ length names
      → size ≤ at → text ≡ whole
  lists_all at size text whole w s h = lists_out at text whole w (slice_get_past names at (omega arith))

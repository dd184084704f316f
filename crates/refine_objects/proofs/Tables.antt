-- The tables of a program's classes have addresses of their own, which are words.
use Rattle.std.proofs.Common.{◌≡◌, ◌≢◌, ◌∙◌, ap, subst, ℕ, zero, suc, ◌+◌, ◌^◌, ◌<◌, ◌≤◌, Bool, true, false, List, []}
use Rattle.std.proofs.Common.{◌∷◌, length, Option, Some, None, refl, slice_get, arith, length-append, ◌⊎◌, inl, inr}
use Rattle.std.proofs.Common.{⊎_elim}
use Rattle.std.proofs.lemmas.Bool.{cases_lt}
use Rattle.std.proofs.lemmas.List.{length-replicate}
use Rattle.object_codegen.specs.code_conventions.declared.memory.TheConstants.{HEADER_WORDS}
use Rattle.object_codegen.specs.rpp_tree.Tree.{Source}
use Rattle.object_codegen.specs.roopl_semantics.Source.{main_fields}
use Rattle.object_codegen.specs.roopl_semantics.Layout.{HasStatics, table_at, main_statics, tables}
use Rattle.object_codegen.specs.pisa_isa.Image.{Segments}
use Rattle.object_codegen.specs.pisa_isa.declared.image.TheConstants.{MOST_STATICS}
use Rattle.object_codegen.proofs.refine_frame_laws.TableWords.{table_offset, table_place, tables_ascend}
use Rattle.refine_expressions.proofs.refine_calls_laws.StaticsWords.{offset_low}

-- two classes have two tables
pub tables_apart : (program : Source) (c d : ℕ) → c ≢ d → table_at program c ≢ table_at program d
tables_apart program c d apart e =
    ⊎_elim (λ l. let a = tables_ascend program c d l in omega (arith, a, e)) (λ l. by (cases_lt d c) l) (cases_lt c d)
  where
    by : (d < c) ⊎ (c ≤ d) → d ≤ c → ⊥
    by (inl l) h = let a = tables_ascend program d c l in omega (arith, a, e)
    by (inr l) h = apart (omega arith)

-- each is a word
pub table_small : (program : Source) (image : Segments) (has : HasStatics program image)
    → length image.statics ≤ MOST_STATICS
    → (class : ℕ) → class ≤ length program.classes → table_at program class < 2 ^ 32
table_small program image has few class inside =
    let main = main_statics program in
    let total : length image.statics ≡ length main + length (tables 1 has.places) = ap (length {A = ℕ}) has.words
    ∙ length-append main (tables 1 has.places) in
    let front : length main ≡ HEADER_WORDS + length (main_fields program) =
    omega (arith, length-replicate {A = ℕ} (length (main_fields program)) 0) in
    let low = offset_low 1 has.places class in
    let table = table_place program image has class inside in
    omega (arith, table, low, total, front, few)

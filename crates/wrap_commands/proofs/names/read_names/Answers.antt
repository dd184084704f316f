use Rattle.std.proofs.Common.{◌≡◌, ◌∙◌, ◌++◌, ◌∷◌, sym, ap, [], map, Bor, List, ℕ, Ok}
use Rattle.std.proofs.lemmas.Result.{err_from_is_err_and}
use Rattle.wrap_commands.specs.WrapNames.{results_from, results_of}
use Rattle.wrap_commands.proofs.Naming.{fails_with, goes_on, stops, is_done}
use Rattle.wrap_commands.proofs.names.read_names.Goals as goal

abbrev text_of : Bor (List ℕ) → List ℕ
text_of name = name.now

abbrev no_name : Bor (List ℕ)
no_name = record { ref_ptr = (0, 0); now = [] }

pub returns-in_err-field : goal.returns-in_err-field
returns-in_err-field c =
    let p = err_from_is_err_and c.from_residual-in_err-field.result c.from_residual-in_err-field.ensures.1 in
    let items = c.deref-name-items.result.now in
    let fields = c.args.fields.now in
    let all : results_from fields [] (map text_of items) ≡ results_of fields c.args.names.now =
    ap (λ xs. results_from fields [] (map text_of xs)) c.deref-name-items.ensures.value
    ∙ ap (results_from fields []) c.in_ok-parts.ensures in
    rw (p.1, p.2) (fails_with c.in_err-field.field-0.0 _ (results_of fields c.args.names.now)
    (λ r e. sym all ∙ stops text_of fields c.deref.result.now c.loop-name.results.items items c.loop-name.name-index
    no_name r (results_from fields [] (map text_of items)) c.loop-name-test.true c.deref.ensures.value e
    c.loop-name.invariant)
    c.in_err-field.ensures)

pub loop-name-preserved : goal.loop-name-preserved
loop-name-preserved c =
    let items = c.deref-name-items.result.now in
    let fields = c.args.fields.now in
    goes_on text_of fields c.deref.result.now c.loop-name.results.items c.push.new.self.items items
    c.loop-name.name-index no_name (results_from fields [] (map text_of items)) c.loop-name-test.true
    c.deref.ensures.value
    (c.in_ok-field.ensures ∙ ap (λ xs. Ok (xs ++ c.in_ok-field.field ∷ [])) c.deref.ensures.value
    ∙ ap (λ xs. Ok xs) (sym c.in_ok-push.ensures.items))
    c.loop-name.invariant

pub returns : goal.returns
returns c =
    let items = c.deref-name-items.result.now in
    let fields = c.args.fields.now in
    let all : results_from fields [] (map text_of items) ≡ results_of fields c.args.names.now =
    ap (λ xs. results_from fields [] (map text_of xs)) c.deref-name-items.ensures.value
    ∙ ap (results_from fields []) c.in_ok-parts.ensures in
    sym all ∙ is_done text_of fields c.loop-name.results.items items c.loop-name.name-index
    (results_from fields [] (map text_of items)) c.loop-name-test.false c.loop-name.invariant

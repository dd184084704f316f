use Rattle.std.proofs.Common.{◌≡◌, ◌≤◌, ◌∙◌, sym, rules, arith, length, None}
use Rattle.pisa_isa.specs.declared.image.TheConstants.{MOST_CELLS, MOST_STATICS}
use Rattle.pisa_isa.specs.Image.{first_seal_refusal}
use Rattle.pisa_isa.proofs.Sealed.{IsImage-sealed}
use Rattle.pisa_isa.proofs.image.Image.seal.Goals as goal

pub invariant_of-result : goal.invariant_of-result
invariant_of-result c =
    let code = c.args.code.items in
    let code_in_limit : length code ≤ MOST_CELLS = rw (← c.deref.ensures.value) (omega arith) in
    let statics_in_limit : length c.args.statics.items ≤ MOST_STATICS = search rules in
    let accepted : first_seal_refusal code ≡ None = rw (← c.deref.ensures.value)
    (sym c.first_refusal.ensures ∙ c.in-None.is) in
    IsImage-sealed code c.args.statics.items code_in_limit statics_in_limit c.requires.in_range accepted

-- The heap begins below 2^21.
use Rattle.std.proofs.Common.{◌≡◌, ℕ, ◌+◌, ◌-◌, ◌*◌, ◌/◌, ◌^◌, ◌<◌, ◌≤◌, List, length, refl, arith}
use Rattle.std.proofs.Math.Nat.{mod-add-div}
use Rattle.object_codegen.specs.rpp_words.Limits.{IsLimits}
use Rattle.object_codegen.specs.pisa_isa.Loaded.{statics_at}
use Rattle.object_codegen.specs.pisa_isa.declared.image.TheConstants.{MOST_STATICS}
use Rattle.object_codegen.proofs.buddy_book_laws.Orders.{pow_pos}
use Rattle.object_codegen.proofs.buddy_book_laws.StoredLaws.{two_power}
use Rattle.object_codegen.specs.roopl_semantics.Execution.{Setting}
use Rattle.object_codegen.proofs.refine_frame_laws.Tells.{rounded_below}
use Rattle.object_codegen.specs.refine_form.Frames.{base}

pub base_small : (setting : Setting) (statics : List ℕ) → IsLimits setting.limits → length statics ≤ MOST_STATICS
    → base setting statics ≤ 2 ^ 21
base_small setting statics limits few =
    let r = rounded_below (statics_at + length statics) (2 ^ setting.limits.heap) (pow_pos setting.limits.heap) in
    let t = two_power setting.limits.heap limits.heap_to in
    let a : 2 ^ 20 ≡ 1048576 = refl in
    let c : 2 ^ 21 ≡ 2097152 = refl in
    omega arith

use Rattle.std.proofs.Common.{◌^◌, ◌≤◌, arith, lit<}
use Rattle.std.proofs.Math.Nat.{pow-le-pow_right}
use Rattle.pisa_loader.proofs.memory.heap_size.Goals as goal

pub returns-clause-high : goal.returns-clause-high
returns-clause-high c =
    let wide : 2 ^ c.args.heap ≤ 2 ^ 20 = pow-le-pow_right {n = 2} (lit< tt) {i = c.args.heap} {j = 20} c.requires in
    omega arith

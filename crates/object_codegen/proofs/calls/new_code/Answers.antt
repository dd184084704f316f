use Rattle.std.proofs.Common.{sym, ap, subst, ◌≤◌, length}
use Rattle.std.specs.Prelude.{IfOk}
use Rattle.refine_heap.specs.rpp_tree.Views.{lvalue_of, creation_of}
use Rattle.object_codegen.specs.Creations.{creation_size}
use Rattle.object_codegen.proofs.calls.new_code.Goals as goal

pub returns-in-Object-clause-size : goal.returns-in-Object-clause-size
returns-in-Object-clause-size c = subst (λ k. IfOk c.class_code.result
    (λ p. length p.cells ≤ creation_size k (lvalue_of c.args.place.now))) (sym (ap creation_of c.in-Object.is))
    c.class_code.ensures.size

pub returns-in-Ints-clause-size : goal.returns-in-Ints-clause-size
returns-in-Ints-clause-size c = subst (λ k. IfOk c.array_code.result
    (λ p. length p.cells ≤ creation_size k (lvalue_of c.args.place.now))) (sym (ap creation_of c.in-Ints.is))
    c.array_code.ensures.size

pub returns-in-Objects-clause-size : goal.returns-in-Objects-clause-size
returns-in-Objects-clause-size c = subst (λ k. IfOk c.array_code-in-Objects.result
    (λ p. length p.cells ≤ creation_size k (lvalue_of c.args.place.now))) (sym (ap creation_of c.in-Objects.is))
    c.array_code-in-Objects.ensures.size

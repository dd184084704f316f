use Rattle.std.proofs.Common.{◌∙◌, ap, [], ◌∷◌, ◌++◌}
use Rattle.program_codegen.proofs.routines.routines.Goals as goal

pub returns : goal.returns
returns c =
    let heap = c.in_ok-allocator.field-0 in
    let methods = c.in_ok-methods.methods.items in
    record {
      allocator = heap;
      methods = methods;
      all = c.in_ok-append.ensures.items ∙ ap (λ xs. xs ++ methods)
          (c.in_ok-push.ensures.items ∙ ap (λ xs. xs ++ heap ∷ []) c.new-pieces.ensures.items);
      allocates = record {
        law = c.in_ok-allocator.ensures.law;
        marks = c.in_ok-allocator.ensures.marks;
        size = c.in_ok-allocator.ensures.count;
      };
      codes = c.in_ok-methods.ensures;
    }

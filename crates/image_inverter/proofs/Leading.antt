-- If a run of an image leads somewhere, the run of the inverse image leads back.
use Rattle.std.proofs.Common.{◌≡◌, ◌∙◌, ap, sym, subst, refl, arith, List, [], ◌∷◌, ◌++◌, map, reverse}
use Rattle.std.proofs.lemmas.List.{map-append, reverse-append}
use Rattle.pisa_isa.specs.declared.cell.Cell.{Cell}
use Rattle.pisa_isa.specs.Table.{inverse_of}
use Rattle.pisa_isa.specs.Machine.{State, Memory, memory_of}
use Rattle.pisa_isa.specs.Image.{Segments, IsImage}
use Rattle.pisa_isa.specs.Runs.{run, started}
use Rattle.pisa_isa.specs.Ends.{IsCleanFinish}
use Rattle.pisa_isa.specs.Flipped.{flipped, Restores}
use Rattle.pisa_isa.proofs.Restored.{flipped_run_restores}
use Rattle.image_inverter.specs.Leading.{begun, LeadsBack}

same_memory : (m : State) (to : Memory) → m.regs ≡ to.regs → m.cells ≡ to.cells → memory_of m ≡ to
same_memory m to e f = rw (e, f)

pub leads_back : (image : Segments) → IsImage image → LeadsBack image.code (flipped image.code)
leads_back image i n from to s leads =
    let code = image.code in
    let steps = leads.steps in
    let back : Restores code (run code n (begun code from)) n from.regs from.cells =
    flipped_run_restores code n from.regs from.cells n i.is_code i.one_start i.one_finish s leads.clean (omega arith) in
    record {
      clean = subst (λ (m : Memory). IsCleanFinish (flipped code) n (begun (flipped code) m)) leads.ends back.clean;
      steps = subst (λ (m : Memory). (run (flipped code) n (begun (flipped code) m)).spent ≡ n) leads.ends
          (back.in_as_many ∙ leads.steps);
      ends = subst (λ (m : Memory). memory_of (run (flipped code) n (begun (flipped code) m)).last ≡ from) leads.ends
          (same_memory (run (flipped code) n (started (flipped code) (run code n (begun code from)).last.regs
          (run code n (begun code from)).last.cells)).last from back.registers back.memory);
    }

-- the inverse cells in reverse order are the reversed cells' inverses
pub map_reverse : (code : List Cell) → map inverse_of (reverse code) ≡ flipped code
map_reverse [] = refl
map_reverse (c ∷ code) =
    ap (map inverse_of) (reverse-append (c ∷ []) code)
    ∙ map-append inverse_of (reverse code) (c ∷ [])
    ∙ ap (λ xs. xs ++ inverse_of c ∷ []) (map_reverse code)
    ∙ sym (reverse-append (inverse_of c ∷ []) (map inverse_of code))

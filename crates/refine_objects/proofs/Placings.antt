-- Only the requests determine where blocks are.
use Rattle.std.proofs.Common.{◌≡◌, ◌≢◌, ◌∙◌, sym, ap, subst, ℕ, true, List, [], ◌∷◌, ◌++◌, map, length, Some}
use Rattle.object_codegen.specs.buddy_book.Place.{Log, Placing, block_of, place}
use Rattle.object_codegen.specs.buddy_book.Shown.{order_in, IsKept}
use Rattle.object_codegen.specs.roopl_semantics.Store.{Value, Head, Store, State, main_name}
use Rattle.object_codegen.specs.roopl_semantics.Value.{Cell, written}
use Rattle.object_codegen.proofs.meaning_sound_laws.Writes.{written_log}
use Rattle.object_codegen.specs.refine_form.Form.{Scope}
use Rattle.object_codegen.specs.refine_form.Frames.{Under}
use Rattle.object_codegen.specs.refine_form.Stands.{Reads}
use Rattle.object_codegen.specs.roopl_semantics.Execution.{Setting, order_of_cells}
use Rattle.object_codegen.specs.meaning_sound.Sound.{head_named, is_live, cell_kinds, entry_name, IsPlaced}

module _ (setting : Setting) (store : Store) (log : Log) (p : IsPlaced setting store log) (at : Placing)
    (placed : place setting.limits.heap log ≡ Some at) where
  pub same : p.at ≡ at
  same = let e : Some p.at ≡ Some at = sym p.placed ∙ placed in cc

  -- the same with this placing
  abbrev pub placed_as : IsPlaced setting store log
  placed_as = record {
    at = at;
    placed = placed;
    names = subst (λ (a : Placing). map entry_name store ≡ map entry_name a.blocks ++ main_name ∷ []) same p.names;
    taken = p.taken;
    kept = subst (λ (a : Placing). IsKept (record {
      h = setting.limits.heap;
      base = 0;
      free = a.book;
      taken = p.taken;
    })) same p.kept;
    orders = subst (λ (a : Placing). (name : ℕ) (head : Head) → head_named store name ≡ Some head → name ≢ main_name
        → order_in p.taken (block_of a.blocks name) ≡ Some
        (order_of_cells (length (cell_kinds setting.program head)))) same p.orders;
    apart = subst (λ (a : Placing). (name other : ℕ) → is_live store name ≡ true → is_live store other ≡ true
        → name ≢ main_name → other ≢ main_name → name ≢ other → block_of a.blocks name ≢ block_of a.blocks other) same
        p.apart;
  }

-- a write moves no block
pub same_frame : (setting : Setting) (statics : List ℕ) (s : Scope) (u : Under) (st : State) (cells cells' : List ℕ)
    (h : Reads setting statics s u [] st cells) (cell : Cell) (v : Value)
    (h' : Reads setting statics s u [] (written st cell v) cells') → h'.frame.at ≡ h.frame.at
same_frame setting statics s u st cells cells' h cell v h' =
    let e : Some h'.frame.at ≡ Some h.frame.at = sym h'.frame.placed
    ∙ ap (place setting.limits.heap) (written_log st cell v) ∙ h.frame.placed in
    cc

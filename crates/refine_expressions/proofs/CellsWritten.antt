-- A write of a value of the cell's type keeps a current frame that expressions are read from,
-- whatever its counts.
use Rattle.std.proofs.Common.{◌≡◌, ℕ, ◌+◌, ◌^◌, ◌<◌, true, List, [], Some, arith}
use Rattle.std.specs.Prelude.{slice_set}
use Rattle.refine_calls.specs.class_rules.declared.kind.Kind.{Kind}
use Rattle.refine_calls.specs.roopl_semantics.Store.{Value, State, main_name}
use Rattle.refine_calls.specs.roopl_semantics.Value.{Cell, read, written}
use Rattle.refine_calls.specs.roopl_semantics.Laws.{one_if_name}
use Rattle.refine_calls.specs.roopl_semantics.Execution.{Setting}
use Rattle.refine_calls.specs.meaning_sound.Sound.{is_of_kind, held, cell_kind}
use Rattle.refine_calls.proofs.meaning_sound_laws.Cells.{held_written}
use Rattle.refine_calls.specs.refine_form.Form.{Scope}
use Rattle.refine_calls.specs.refine_form.Frames.{Under, value_word}
use Rattle.refine_calls.specs.refine_form.Stands.{shape_of, extra, Reads}
use Rattle.refine_calls.proofs.Bridge.{set_words, typed}
use Rattle.refine_calls.proofs.MovesFit.{place_of, frame_write}
use Rattle.refine_calls.proofs.KeptMoves.{kept_unheld}

module _ (setting : Setting) (statics : List ℕ) (s : Scope) (u : Under) (st : State) (cells : List ℕ)
    (h : Reads setting statics s u [] st cells) (c : Cell) (k : Kind)
    (has : cell_kind setting.program (shape_of setting.program s) st.store c ≡ Some k) (v : Value) where
  pub held_after : (m : ℕ) → held m (written st c v) + one_if_name m (read st c) ≡ held m st + one_if_name m v
  held_after m = held_written setting (extra u []) (shape_of setting.program s) s.class st c k v m
      (typed setting statics s u [] st cells h) has

  module _ (fit : is_of_kind setting.program st.store v k ≡ true) (no_main : one_if_name main_name v ≡ 0) where
    abbrev pub reads_after : value_word setting statics h.frame.at v < 2 ^ 32
        → Reads setting statics s u [] (written st c v) (slice_set cells (place_of setting statics h.frame.at u st c)
        (value_word setting statics h.frame.at v))
    reads_after small = record {
      frame = frame_write setting statics s u [] st cells h c k v has;
      keeps =
          kept_unheld setting statics s u [] st (typed setting statics s u [] st cells h) h.keeps c k has v [] fit
          (let a = held_after main_name in let b = h.keeps.main_unheld in omega (arith, a, b, no_main))
          h.keeps.lives h.keeps.main_extra tt;
      words = set_words cells (place_of setting statics h.frame.at u st c) (value_word setting statics h.frame.at v)
          h.words small;
    }

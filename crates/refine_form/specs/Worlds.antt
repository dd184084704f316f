-- The worlds that contracts speak of, from plain data: a program with its limits, an image with its
-- static cells, its routines.
use Rattle.std.specs.Prelude.{◌≡◌, ℕ, ◌+◌, ◌*◌, ◌^◌, List, [], ◌∷◌, length, slice_index}
use Rattle.std.specs.Option.{unwrap_or}
use Rattle.refine_frame.specs.buddy_book.Place.{place}
use Rattle.paired_code.specs.Machine.{Image}
use Rattle.paired_code.specs.Does.{Rates}
use Rattle.refine_frame.specs.roopl_semantics.Execution.{Setting}
use Rattle.refine_frame.specs.roopl_semantics.Layout.{no_placing}
use Rattle.refine_form.specs.Form.{World, MethodRoutines}
use Rattle.refine_form.specs.Frames.{Under, spare_words, stack_base, value_word}
use Rattle.refine_form.specs.Stands.{Reads, Stands}
use Rattle.refine_frame.specs.rpp_words.declared.input.TheConstants.{FRAME_WORDS}

pub record Place : Type 0 where
  pub setting : Setting
  pub statics : List ℕ
  pub im : Image
  pub routines : MethodRoutines

-- nothing but a caller's object is saved in a frame: the words of the link and of the place are 0
pub record IsFresh (u : Under) : Type 0 where
  pub is : u.put_by ≡ 0 ∷ slice_index u.put_by 1 ∷ 0 ∷ spare_words

-- a step is worth no more cost units than a whole heap has cells, and a cost unit comes with 1000
-- steps at most
abbrev pub rates_of : Setting → Rates
rates_of setting = record { counts = 2 ^ setting.limits.heap + 64; steps = 1000 }

abbrev pub world_of : Place → World
world_of p = record {
  setting = p.setting;
  im = p.im;
  rates = rates_of p.setting;
  routines = p.routines;
  Under = Under;
  object_of = λ u. u.object;
  frame_of = λ u. stack_base p.setting p.statics + FRAME_WORDS * length u.callers;
  IsFresh = IsFresh;
  opens = Stands p.setting p.statics;
  reads = λ s u st cells. Reads p.setting p.statics s u [] st cells;
  are_read = λ s u st cells h. record { frame = h.frame; keeps = h.keeps; words = h.words };
  word_of = λ u st v. value_word p.setting p.statics
      (unwrap_or (place p.setting.limits.heap st.log) no_placing) v;
}

-- What the words of a live session do, and the status. `shelf` and `shelf'` are the file store as
-- it is passed and as it is left. `before` and `after` are the lines that come in, what was heard
-- and what was put, before and after.
use Rattle.std.specs.Prelude.{◌≡◌, ◌⊎◌, ℕ, List, [], ◌∷◌, ◌++◌, get_or, codes, None, Some, Result}
use Rattle.std.specs.Prelude.{Ok, Err, slice_get}
use Rattle.std.specs.declared.option.Option.{Option}
use Rattle.run_settings.specs.rpp_words.declared.input.FieldWord.{FieldWord}
use Rattle.run_settings.specs.rpp_words.declared.input.Limits.{Limits}
use Rattle.run_settings.specs.rpp_words.Texts.{line_end}
use Rattle.run_settings.specs.rpp_tree.Tree.{Source}
use Rattle.run_settings.specs.rpp_ports.declared.sink.SinkFault.{SinkFault}
use Rattle.run_settings.specs.Runnable.{RefusesRun, RunsTo}
use Rattle.run_settings.specs.command_plan.declared.plan.Room.{Room}
use Rattle.run_settings.specs.rpp_words.declared.input.TheConstants.{MOST_DEEP}
use Rattle.run_settings.specs.pisa_image.declared.error.ImageError.{ImageError}
use Rattle.run_settings.specs.pisa_image.Reading.{image_at}
use Rattle.run_settings.specs.pisa_loader.Limiting.{limits_refusal}
use Rattle.run_settings.specs.pisa_loader.declared.error.LoadError.{LoadError}
use Rattle.run_settings.specs.command_plan.Files.{Needed, source_file, input_files, image_file, state_files}
use Rattle.run_settings.specs.command_plan.Reads.{Gave, StopsAt, ReadsSome}
use Rattle.run_settings.specs.command_plan.Plans.{Planned}
use Rattle.run_settings.specs.command_ends.Statuses.{code_of}
use Rattle.run_settings.specs.command_plan.Texts.{image_line, load_line}
use Rattle.run_settings.specs.command_ends.declared.verdict.Verdict.TheVariants.{ImageRefused, InputRefused}
use Rattle.plan_serving.specs.Outside.{Shelved}
use Rattle.live_session.specs.source_debugger.Failures.{account}
use Rattle.live_images.specs.live_talks.Talks.{Talk, TalkPrinted, TalkPuts, TalkSays, status_by}
use Rattle.live_images.specs.live_talks.Sessions.{IsSession}
use Rattle.live_images.specs.live_talks.Limits.{Held, held_run, WithLimits}
use Rattle.live_session.specs.Sessions.{RepliesOf}
use Rattle.run_settings.specs.pisa_isa.Image.{Segments}
use Rattle.run_settings.specs.pisa_isa.Notes.{NotedImage}
use Rattle.image_commands.specs.pisa_machine.Position.{Position}
use Rattle.image_commands.specs.ImagePlans.{position_at_start}
use Rattle.live_images.specs.Sessions.{ImageRepliesOf as RepliesAlong}
use Rattle.live_command.specs.Beginnings.{Opened, OfSource, OfImage}

abbrev pub words_refused : List ℕ
words_refused = codes "words refused" ++ line_end

-- the first reply: which protocol this is, and of what kind of run
abbrev pub greeting_of : (kind : List ℕ) → List ℕ
greeting_of kind =
    codes "rooplpp-live 1 " ++ (kind ++ (line_end ++ (codes ". done" ++ line_end)))

abbrev pub greeting : List ℕ
greeting = greeting_of (codes "source")

abbrev pub image_greeting : List ℕ
image_greeting = greeting_of (codes "image")

-- no memory was found: nothing is asked and nothing is put
abbrev pub LacksMemory : (before after : Talk) → (status : ℕ) → Type 0
LacksMemory before after status = (after ≡ before) × (status ≡ 7)

-- a text was put, once; the status is this one, if it was taken
pub record PutsOnce (text : List ℕ) (taken : ℕ) (old new : TalkPrinted) (status : ℕ) : Type 0 where
  pub answer : Result (Unit {0}) SinkFault
  pub puts : TalkPuts text answer old new
  pub status_is : status ≡ status_by taken answer

-- a text is put, once, and nothing is asked; the status is this one, if the text was taken
pub record Prints (text : List ℕ) (taken : ℕ) (before after : Talk) (status : ℕ) : Type 0 where
  pub answer : Result (Unit {0}) SinkFault
  pub says : TalkSays text answer before after
  pub status_is : status ≡ status_by taken answer

-- the greeting was put, and a session was held along the points of the run, with fuel enough, at
-- first with no limit on the moves of a request
pub record HoldsSession (program : Source) (limits : Limits) (input : List FieldWord)
    (before after : Talk) (status : ℕ) : Type 0 where
  pub fuel : ℕ
  pub talk : Talk
  pub greets : TalkSays greeting (Ok tt) before talk
  pub session : IsSession (RepliesOf program (account program limits input fuel)) (held_run 0 None) talk
      after status

-- the greeting was not taken
pub record FailsToGreet (greeting : List ℕ) (before after : Talk) (status : ℕ) : Type 0 where
  pub fault : SinkFault
  pub says : TalkSays greeting (Err fault) before after
  pub status_is : status ≡ status_by 0 (Err fault)

-- what is done with the run of a program
abbrev pub OpensRun : (before after : Talk) → (status : ℕ) → Source → Limits → List FieldWord
    → Type 0
OpensRun before after status program limits input =
    LacksMemory before after status
    ⊎ (FailsToGreet greeting before after status
    ⊎ HoldsSession program limits input before after status)

-- the refusal that `trace` has of these texts is put, with its status
pub record RefusesSession (text given : List ℕ) (room : Room) (before after : Talk) (status : ℕ)
    : Type 0 where
  pub plan : Planned
  pub refuses : RefusesRun text given room plan
  pub prints : Prints plan.text (code_of plan.verdict) before after status

-- what is done with the texts of a source and an input
abbrev pub Starts : (text given : List ℕ) → (room : Room) → (before after : Talk) → (status : ℕ)
    → Type 0
Starts text given room before after status =
    LacksMemory before after status ⊎ (RefusesSession text given room before after status
    ⊎ RunsTo text given room (OpensRun before after status))

-- ---- the run of an image

-- the greeting was put, and a session was held along the positions of the machine from one on
pub record HoldsAlong (first : Held Position) (before after : Talk) (status : ℕ) : Type 0 where
  pub talk : Talk
  pub greets : TalkSays image_greeting (Ok tt) before talk
  pub session : IsSession (WithLimits RepliesAlong) first talk after status

abbrev pub OpensAlong : (first : Held Position) → (before after : Talk) → (status : ℕ) → Type 0
OpensAlong first before after status =
    LacksMemory before after status
    ⊎ (FailsToGreet image_greeting before after status ⊎ HoldsAlong first before after status)

-- where the run begins: at the loaded memory, or at a state, of which the first refusal is put
abbrev pub OpensImage : Result Position LoadError → (before after : Talk) → (status : ℕ) → Type 0
OpensImage (Err e) before after status =
    LacksMemory before after status
    ⊎ Prints (load_line e) (code_of ImageRefused) before after status
OpensImage (Ok first) before after status = OpensAlong (held_run first None) before after status

abbrev pub StartsImage : Segments → Limits → (state : Option (List ℕ)) → (before after : Talk)
    → (status : ℕ) → Type 0
StartsImage image limits state before after status =
    LacksMemory before after status
    ⊎ OpensImage (position_at_start image limits state) before after status

-- the sizes of the memory are tried before the state
abbrev pub SizesImage : Option LoadError → Segments → Limits → (state : Option (List ℕ))
    → (before after : Talk) → (status : ℕ) → Type 0
SizesImage (Some e) image limits state before after status =
    LacksMemory before after status
    ⊎ Prints (load_line e) (code_of InputRefused) before after status
SizesImage None image limits state before after status =
    StartsImage image limits state before after status

-- the first refusal of the image is put, with its status
abbrev pub ReadsImage : Result NotedImage ImageError → Room → (state : Option (List ℕ))
    → (before after : Talk) → (status : ℕ) → Type 0
ReadsImage (Err e) room state before after status =
    LacksMemory before after status
    ⊎ Prints (image_line e) (code_of ImageRefused) before after status
ReadsImage (Ok n) room state before after status =
    LacksMemory before after status
    ⊎ SizesImage (limits_refusal room.heap room.deep MOST_DEEP) n.image
    (record { heap = room.heap; deep = room.deep }) state before after status

-- ---- the files

-- the files that the words name, in order
abbrev pub session_files : Opened → List Needed
session_files (OfSource it) = source_file it.file ∷ input_files it.input
session_files (OfImage it) = image_file it.file ∷ state_files it.state

-- what is done with their texts: the second one, if there is one, is the input of a source, or the
-- state of an image
abbrev pub StartsBy : Opened → (texts : List (List ℕ)) → (before after : Talk) → (status : ℕ)
    → Type 0
StartsBy (OfSource it) texts before after status =
    Starts (get_or texts 0 []) (get_or texts 1 []) it.room before after status
StartsBy (OfImage it) texts before after status =
    ReadsImage (image_at (get_or texts 0 [])) it.room (slice_get texts 1) before after status

-- the files were read, each once and in order, and a session is begun of their texts
pub record BeginsSession (it : Opened) (shelf shelf' : Shelved) (before after : Talk) (status : ℕ)
    : Type 0 where
  pub texts : List (List ℕ)
  pub gave : Gave shelf.texts (session_files it) texts shelf.calls shelf'.calls
  pub starts : StartsBy it texts before after status

-- the files before one gave their texts, and that one could not be read: the line on it is put
pub record SessionLacksFile (it : Opened) (rose : Type 0) (shelf shelf' : Shelved) (before after : Talk)
    (status : ℕ) : Type 0 where
  pub line : List ℕ
  pub stops : StopsAt shelf.texts (session_files it) rose line shelf.calls shelf'.calls
  pub prints : Prints line 2 before after status

-- some first files were read, and then no memory was found
pub record StopsReading (it : Opened) (shelf shelf' : Shelved) (before after : Talk) (status : ℕ)
    : Type 0 where
  pub reads : ReadsSome (session_files it) shelf.calls shelf'.calls
  pub lacks : LacksMemory before after status

-- All that the words do, and the status. `rose` says that the count of faults of the file store
-- rose.
abbrev pub Lives : Option Opened → (rose : Type 0) → (shelf shelf' : Shelved)
    → (before after : Talk) → (status : ℕ) → Type 0
Lives None rose shelf shelf' before after status =
    (shelf' ≡ shelf) × (LacksMemory before after status
    ⊎ Prints words_refused 1 before after status)
Lives (Some it) rose shelf shelf' before after status =
    BeginsSession it shelf shelf' before after status
    ⊎ (SessionLacksFile it rose shelf shelf' before after status
    ⊎ StopsReading it shelf shelf' before after status)

-- Files that are read one after the other.
use Rattle.std.proofs.Common.{◌≡◌, refl, sym, ap, subst, ◌∙◌, ℕ, ◌≤◌, ◌<◌, List, [], ◌∷◌, Some, Ok, Err}
use Rattle.std.proofs.Common.{inl, inr, arith, length, true, false}
use Rattle.std.specs.Prelude.{Result, IfErr, string_bytes, Bool, if◌then◌else◌, IsSomeAnd}
use Rattle.std.specs.declared.option.Option.{Option}
use Rattle.std.specs.Str.{bytes_eq}
use Rattle.std.proofs.lemmas.Slice.Eq.{bytes_eq-Decides}
use Rattle.command_plan.specs.rpp_ports.Ports.{Texts, Rose}
use Rattle.command_plan.specs.rpp_ports.Events.{Event}
use Rattle.command_plan.specs.declared.plan.NoPlan.{NoPlan}
use Rattle.command_plan.specs.declared.plan.NoPlan.TheVariants.{NoMemory, Unread}
use Rattle.command_plan.specs.Files.{Needed, LacksOne}
use Rattle.command_plan.specs.Reads.{read_event, Gave, FailsAt, StopsAt, ReadsSome, Asks}
use Rattle.plan_serving.specs.Places.{IsBefore, HasPlaces, place_files}
use Rattle.command_plan.proofs.TwoReads.{cause_by}
pub use Rattle.command_plan.proofs.TwoReads.{rose_before}

fails_by : (told : Option Texts) (file : Needed) (R S : Type 0) (line : List ℕ) (old new : List Event) → (R → S)
    → FailsAt told file R line old new → FailsAt told file S line old new
fails_by told file R S line old new f is = record {
  why = is.why;
  not_memory = is.not_memory;
  cause = cause_by told file.name file.limit R S is.why f is.cause;
  tried = is.tried;
  line_is = is.line_is;
}

stops_by : (told : Option Texts) (files : List Needed) (R S : Type 0) (line : List ℕ) (old new : List Event) → (R → S)
    → StopsAt told files R line old new → StopsAt told files S line old new
stops_by told [] R S line old new f h = h
stops_by told (file ∷ files) R S line old new f (inl is) = inl (fails_by told file R S line old new f is)
stops_by told (file ∷ files) R S line old new f (inr more) =
    inr (more.0, more.1, stops_by told files R S line (read_event file (Ok more.0) ∷ old) new f more.2)

stops_first : (told : Option Texts) (file : Needed) (files : List Needed) (R : Type 0) (line : List ℕ)
    (old new : List Event) → StopsAt told (file ∷ []) R line old new → StopsAt told (file ∷ files) R line old new
stops_first told file files R line old new (inl is) = inl is
stops_first told file files R line old new (inr more) = absurd more.2

pub some_none : (files : List Needed) (old : List Event) → ReadsSome files old old
some_none [] old = refl
some_none (file ∷ files) old = inl refl

some_first : (file : Needed) (files : List Needed) (old new : List Event) → ReadsSome (file ∷ []) old new
    → ReadsSome (file ∷ files) old new
some_first file files old new (inl none) = inl none
some_first file files old new (inr (inl failed)) = inr (inl failed)
some_first file files old new (inr (inr more)) =
    inr (inr (
      more.0,
      subst (λ (now : List Event). ReadsSome files (read_event file (Ok more.0) ∷ old) now) (sym more.1)
          (some_none files (read_event file (Ok more.0) ∷ old)),
    ))

gave_some : (told : Option Texts) (files : List Needed) (texts : List (List ℕ)) (old new : List Event)
    → Gave told files texts old new → ReadsSome files old new
gave_some told [] [] old new gave = gave
gave_some told [] (text ∷ texts) old new gave = absurd gave
gave_some told (file ∷ files) [] old new gave = absurd gave
gave_some told (file ∷ files) (text ∷ texts) old new gave =
    inr (inr (text, gave_some told files texts (read_event file (Ok text) ∷ old) new gave.1))

-- the first file could not be read
pub first_asked : {T U : Type 0} (told : Option Texts) (b n : ℕ) (file : Needed) (files : List Needed)
    (old new : List Event) (stop : NoPlan)
    → Asks {T = T} told b n (file ∷ []) old new (Err stop) → Asks {T = U} told b n (file ∷ files) old new (Err stop)
first_asked told b n file files old new NoMemory asks = record { stops = some_first file files old new asks.stops }
first_asked told b n file files old new (Unread text) asks =
    record { stops = stops_first told file files (Rose b n) (string_bytes text) old new asks.stops }

-- the first file was read, and then the others were tried
pub then_asked : {U : Type 0} (told at : Option Texts) (b m n : ℕ) (file : Needed) (files : List Needed)
    (old mid new : List Event) (text : List ℕ) (r : Result U NoPlan) → at ≡ told → b ≤ m
    → Gave told (file ∷ []) (text ∷ []) old mid → Asks {T = U} at m n files mid new r
    → Asks {T = U} told b n (file ∷ files) old new r
then_asked {U} told at b m n file files old mid new text r kept later gave more =
    by_result r (subst (λ events. Asks {T = U} told m n files events new r) gave.1
    (subst (λ texts. Asks {T = U} texts m n files mid new r) kept more))
  where
    by_result : (r : Result U NoPlan) → Asks {T = U} told m n files (read_event file (Ok text) ∷ old) new r
        → Asks {T = U} told b n (file ∷ files) old new r
    by_result (Ok u) more = record { stops = tt }
    by_result (Err NoMemory) more = record { stops = inr (inr (text, more.stops)) }
    by_result (Err (Unread line)) more = record {
      stops = inr (
        text,
        gave.0,
        stops_by told files (Rose m n) (Rose b n) (string_bytes line)
            (read_event file (Ok text) ∷ old) new (rose_before b m n later) more.stops,
      );
    }

-- all files were read, and after that only a lack of memory can stop a call
pub all_asked : {T : Type 0} (told : Option Texts) (b n : ℕ) (files : List Needed) (old new : List Event)
    (texts : List (List ℕ)) (r : Result T NoPlan) → Gave told files texts old new → IfErr r (λ e. e ≡ NoMemory)
    → Asks {T = T} told b n files old new r
all_asked told b n files old new texts (Ok x) gave h = record { stops = tt }
all_asked told b n files old new texts (Err NoMemory) gave h =
    record { stops = gave_some told files texts old new gave }
all_asked told b n files old new texts (Err (Unread text)) gave h = absurd (grind arith)

-- the first file was read, and then the others
pub then_gave : (told at : Option Texts) (file : Needed) (files : List Needed) (text : List ℕ) (texts : List (List ℕ))
    (old mid new : List Event) → at ≡ told → Gave told (file ∷ []) (text ∷ []) old mid
    → Gave at files texts mid new → Gave told (file ∷ files) (text ∷ texts) old new
then_gave told at file files text texts old mid new kept first more = (
  first.0,
  subst (λ events. Gave told files texts events new) first.1
      (subst (λ t. Gave t files texts mid new) kept more),
)

-- The names of places.

differs : (x y : List ℕ) → length x < length y → (b : Bool) → bytes_eq x y ≡ b → b ≡ false
differs x y lt false e = refl
differs x y lt true e =
    let same : x ≡ y = (bytes_eq-Decides x y).0 e in
    let k : length x ≡ length y = ap length same in absurd (omega arith)

behind_first : (held held' : Texts) (place bytes at : List ℕ) (texts : List (List ℕ)) → IsBefore place bytes held held'
    → length place < length at → HasPlaces held at texts → HasPlaces held' at texts
behind_first held held' place bytes at [] before longer has = tt
behind_first held held' place bytes at (text ∷ texts) before longer has = (
  before at ∙ ap (λ (b : Bool). if b then Some bytes else held at) (differs place at longer (bytes_eq place at) refl)
      ∙ has.0,
  behind_first held held' place bytes (97 ∷ at) texts before (omega arith) has.1,
)

-- a text more, at the place before the others
pub place_more : (held held' : Texts) (place bytes : List ℕ) (texts : List (List ℕ))
    → IsBefore place bytes held held' → HasPlaces held (97 ∷ place) texts → HasPlaces held' place (bytes ∷ texts)
place_more held held' place bytes texts before has = (
  before place ∙ ap (λ (b : Bool). if b then Some bytes else held place) ((bytes_eq-Decides place place).1 refl),
  behind_first held held' place bytes (97 ∷ place) texts before (omega arith) has,
)

-- texts that were read are not missing or too long at their places
pub none_lacks : (told : Option Texts) (held : Texts) (place : List ℕ) (files : List Needed)
    (texts : List (List ℕ)) (old new : List Event) → Gave told files texts old new → HasPlaces held place texts
    → ¬ LacksOne held (place_files place files)
none_lacks told held place [] texts old new gave has lacks = lacks
none_lacks told held place (file ∷ files) [] old new gave has lacks = absurd gave
none_lacks told held place (file ∷ files) (text ∷ texts) old new gave has (inl (inl missing)) =
    let no = sym has.0 ∙ missing in absurd (grind arith)
none_lacks told held place (file ∷ files) (text ∷ texts) old new gave has (inl (inr long)) =
    let h : file.limit < length text = subst (λ t. IsSomeAnd t (λ text. file.limit < length text)) has.0 long in
    let k : length text ≤ file.limit = gave.0.1 in absurd (omega arith)
none_lacks told held place (file ∷ files) (text ∷ texts) old new gave has (inr lacks) =
    none_lacks told held (97 ∷ place) files texts (read_event file (Ok text) ∷ old) new gave.1 has.1 lacks

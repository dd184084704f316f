-- Two reads one after the other.
use Rattle.std.proofs.Common.{subst, ℕ, ◌≤◌, List, [], ◌∷◌, Some, None, Ok, Err, inl, inr, arith, ⊎_elim}
use Rattle.std.specs.Prelude.{Result, IfSome, string_bytes}
use Rattle.std.specs.declared.option.Option.{Option}
use Rattle.std.proofs.lemmas.Bool.Decides.{nat_tests}
use Rattle.rpp_ports.specs.Ports.{Texts, Rose, ReadCause}
use Rattle.rpp_ports.specs.declared.shelf.ShelfFault.{ShelfFault}
use Rattle.command_plan.specs.declared.plan.NoPlan.{NoPlan}
use Rattle.command_plan.specs.declared.plan.NoPlan.TheVariants.{NoMemory, Unread}
use Rattle.command_plan.specs.Files.{Needed, LacksOne, Unreadable, IsUnread, FirstUnread, OnlyReads}
use Rattle.rpp_ports.specs.declared.shelf.ShelfFault.TheVariants as fault

pub rose_before : (b m n : ℕ) → b ≤ m → Rose m n → Rose b n
rose_before b m n h rose = grind (arith, nat_tests)

-- what a cause says if another rise is as good
pub cause_by : (told : Option Texts) (name : List ℕ) (limit : ℕ) (R S : Type 0) (why : ShelfFault) → (R → S)
    → ReadCause told name limit R why → ReadCause told name limit S why
cause_by told name limit R S fault.NoMemory f c = tt
cause_by told name limit R S fault.Failed f c = f c
cause_by (Some texts) name limit R S fault.Missing f c = c
cause_by (Some texts) name limit R S fault.TooLong f c = c
cause_by None name limit R S fault.Missing f c = f c
cause_by None name limit R S fault.TooLong f c = f c

unread_by : (told : Option Texts) (file : Needed) (R S : Type 0) (line : List ℕ) → (R → S) → IsUnread told file R line
    → IsUnread told file S line
unread_by told file R S line f is = record {
  why = is.why;
  not_memory = is.not_memory;
  cause = cause_by told file.name file.limit R S is.why f is.cause;
  line_is = is.line_is;
}

first_by : (told : Option Texts) (files : List Needed) (R S : Type 0) (line : List ℕ) → (R → S)
    → FirstUnread told files R line → FirstUnread told files S line
first_by told [] R S line f h = h
first_by told (file ∷ files) R S line f (inl is) = inl (unread_by told file R S line f is)
first_by told (file ∷ files) R S line f (inr more) = inr (more.0, first_by told files R S line f more.1)

unreadable_next : (told : Option Texts) (file : Needed) (files : List Needed) (R S : Type 0) → (R → S)
    → Unreadable told files R → Unreadable told (file ∷ files) S
unreadable_next told file files R S f (inl rose) = inl (f rose)
unreadable_next (Some texts) file files R S f (inr lacks) = inr (inr lacks)
unreadable_next None file files R S f (inr lacks) = absurd lacks

whole_of : (told : Option Texts) (file : Needed) (files : List Needed)
    → IfSome told (λ texts. ¬ LacksOne texts (file ∷ [])) → IfSome told (λ texts. ¬ LacksOne texts files)
    → IfSome told (λ texts. ¬ LacksOne texts (file ∷ files))
whole_of None file files h k = tt
whole_of (Some texts) file files h k = λ lacks. ⊎_elim (λ one. h (inl one)) (λ more. k more) lacks

-- the first file was read, and then the others were tried
pub then_reads : {T U : Type 0} (old mid new : Option Texts) (b m n : ℕ) (file : Needed) (files : List Needed)
    (text : T) (r : Result U NoPlan)
    → OnlyReads {T = T} old mid b m (file ∷ []) (Ok text) → OnlyReads {T = U} mid new m n files r
    → OnlyReads {T = U} old new b n (file ∷ files) r
then_reads {T} {U} old mid new b m n file files text r first more =
    by_result r (subst (λ told. OnlyReads {T = U} told new m n files r) first.kept more)
  where
    by_result : (r : Result U NoPlan) → OnlyReads {T = U} old new m n files r
        → OnlyReads {T = U} old new b n (file ∷ files) r
    by_result (Ok u) more = record {
      kept = more.kept;
      later = let h = first.later in let k = more.later in omega arith;
      cause = tt;
      first = tt;
      whole = whole_of old file files first.whole more.whole;
    }
    by_result (Err NoMemory) more = record {
      kept = more.kept;
      later = let h = first.later in let k = more.later in
          omega arith;
      cause = tt;
      first = tt;
      whole = tt;
    }
    by_result (Err (Unread line)) more = record {
      kept = more.kept;
      later = let h = first.later in let k = more.later in omega arith;
      cause = unreadable_next old file files (Rose m n) (Rose b n) (rose_before b m n first.later) more.cause;
      first = inr (
        first.whole,
        first_by old files (Rose m n) (Rose b n) (string_bytes line)
            (rose_before b m n first.later) more.first,
      );
      whole = tt;
    }

-- Every block is undone, and the inverse of `main` leads back.
use Rattle.std.proofs.Common.{◌≡◌, ℕ, zero, suc, ◌+◌, ◌≤◌, refl, sym, ap, subst, ◌∙◌, arith, List, [], ◌∷◌, map, Some}
use Rattle.std.proofs.Common.{None, Option, option_map}
use Rattle.meaning_reached.specs.rpp_tree.Tree.{Whole, Item, Object as AnObject, Ints, Objects, Statement, Statements, Update, Swap, If}
use Rattle.meaning_reached.specs.rpp_tree.Tree.{From, Construct, Local, New, Delete, Copy, Uncopy, Call, Skip, End, Then}
use Rattle.meaning_reached.specs.inverse_rules.Inverse.{inverse_statement, inverse}
use Rattle.meaning_reached.specs.roopl_semantics.Run.{Run, Done, after_cost, ◌>>=◌}
use Rattle.meaning_reached.specs.roopl_semantics.Store.{Value, Word, Nil, Name, Object, Binding, State, object_named}
use Rattle.meaning_reached.specs.roopl_semantics.Execution.{Setting, statement, exec}
use Rattle.meaning_reached.specs.roopl_semantics.Source.{source}
use Rattle.meaning_reached.specs.roopl_semantics.Agreement.{renamed, renamed_object}
use Rattle.meaning_inverse.specs.StatesAgree.{renamed_binding, AgreeStates}
use Rattle.meaning_inverse.specs.InverseLaws.{InverseLeadsBack}
use Rattle.meaning_inverse.proofs.Runs.{Runs, split, done_result, done_cost, runs_end, runs_then, runs_joined}
use Rattle.meaning_inverse.proofs.Later.{IsSound, Later, statement_later, exec_later}
use Rattle.meaning_inverse.proofs.Seen.{Names, Sees}
use Rattle.meaning_inverse.proofs.Ground.{Ground}
use Rattle.meaning_inverse.proofs.Undone.{same_then, Undone, undo_skip, undo_update, undo_swap}
use Rattle.meaning_inverse.proofs.Nested.{Undoes, undo_if, undo_from}
use Rattle.meaning_inverse.proofs.Scopes.{undo_local, undo_construct, undo_element}
use Rattle.meaning_inverse.proofs.Calls.{undo_call_own, undo_call}
use Rattle.meaning_inverse.proofs.Copies.{undo_copy, undo_uncopy}
use Rattle.meaning_inverse.proofs.Heap.{undo_new_object, undo_delete_object}
use Rattle.meaning_inverse.proofs.Arrays.{undo_new_ints, undo_new_objects, undo_delete_ints, undo_delete_objects}

-- the map that keeps every name
unfoldable pub same_map : Names
same_map = record {
  there = λ n. n;
  back = λ n. n;
  there_and_back = λ n. refl;
  back_and_there = λ n. refl;
  zero_stays = refl;
  main_stays = refl;
}

same_value_map : (v : Value) → renamed (λ n. n) v ≡ v
same_value_map (Word w) = refl
same_value_map Nil = refl
same_value_map (Name n) = refl

same_cells : (cells : List Value) → map (renamed (λ n. n)) cells ≡ cells
same_cells [] = refl
same_cells (v ∷ cells) = ap (λ x. x ∷ map (renamed (λ n. n)) cells) (same_value_map v)
    ∙ ap (λ l. v ∷ l) (same_cells cells)

same_frame : (frame : List Binding) → map (renamed_binding (λ n. n)) frame ≡ frame
same_frame [] = refl
same_frame (b ∷ frame) = ap (λ v. record b { value = v } ∷ map (renamed_binding (λ n. n)) frame)
    (same_value_map b.value) ∙ ap (λ l. b ∷ l) (same_frame frame)

pub same_object : (o : Option Object) → option_map (renamed_object (λ n. n)) o ≡ o
same_object None = refl
same_object (Some o) = ap (λ c. Some (record o { cells = c })) (same_cells o.cells)

-- a state is seen as itself
pub sees_itself : (h : ℕ) (st : State) → IsSound st → Sees h same_map st st
unfolding same_map
sees_itself h st s = record {
  frame = sym (same_frame st.frame);
  self = refl;
  depth = refl;
  objects = λ n. sym (same_object (object_named st.store n));
  book = refl;
  blocks = λ n o e ne. refl;
  sound = s;
}

-- what is seen agrees
pub sees_agree : (h : ℕ) (f : Names) (first second : State) → Sees h f first second → AgreeStates h first second
sees_agree h f first second s =
    record {
      stores = record {
        there = f.there;
        back = f.back;
        there_and_back = f.there_and_back;
        back_and_there = f.back_and_there;
        main_object = f.main_stays;
        objects = s.objects;
      };
      frame = s.frame;
      self = s.self;
      depth = s.depth;
      book = s.book;
      blocks = s.blocks;
    }

-- one statement
lone : (r : Run State) (end : State) (c : ℕ) → r ≡ Done end c
    → after_cost 1 (r >>= (λ st. Done st 0)) ≡ Done end (1 + c)
lone r end c e = ap (λ x. after_cost 1 (x >>= (λ st. Done st 0))) e
    ∙ ap (Done end) (let z : 1 + (c + 0) ≡ 1 + c = omega arith in z)

module _ (setting : Setting) (G : Ground setting) where
  undo_statement : (n : ℕ) → Undoes setting G n → (s : Statement) (C : G.Context) (a b : State) (c : ℕ)
      → G.Typed C (Then s End) → G.Good C a → G.Good C b → Later a b
      → statement setting n (exec setting n) s a ≡ Done b c → (f : Names) (b' : State) → Sees setting.limits.heap f b b'
      → Undone setting s f a b b' c
  undo_statement n ih (Update at op target value) C a b c typed good good_b later e f b' sees =
      undo_update setting G n C at op target value a b c typed good good_b e f b' sees
  undo_statement n ih (Swap at left right) C a b c typed good good_b later e f b' sees =
      undo_swap setting G n C at left right a b c typed good good_b e f b' sees
  undo_statement n ih (If at test taken other after) C a b c typed good good_b later e f b' sees =
      undo_if setting G n ih C at test taken other after a b c typed good good_b e f b' sees
  undo_statement n ih (From at entry first again exit) C a b c typed good good_b later e f b' sees =
      undo_from setting G C n ih at entry first again exit typed a b c good e f b' sees
  undo_statement n ih (Construct at class name body end) C a b c typed good good_b later e f b' sees =
      undo_construct setting G n ih C at class name body end a b c typed good e f b' sees
  undo_statement n ih (Local at var value body end_var end_value) C a b c typed good good_b later e f b' sees =
      undo_local setting G n ih C at var value body end_var end_value a b c typed good good_b e f b' sees
  undo_statement n ih (New at (AnObject class) target) C a b c typed good good_b later e f b' sees =
      undo_new_object setting G n C at class target a b c typed good good_b e f b' sees
  undo_statement n ih (New at (Ints size) target) C a b c typed good good_b later e f b' sees =
      undo_new_ints setting G n C at size target a b c typed good good_b e f b' sees
  undo_statement n ih (New at (Objects class size) target) C a b c typed good good_b later e f b' sees =
      undo_new_objects setting G n C at class size target a b c typed good good_b e f b' sees
  undo_statement n ih (Delete at (AnObject class) target) C a b c typed good good_b later e f b' sees =
      undo_delete_object setting G n C at class target a b c typed good good_b e f b' sees
  undo_statement n ih (Delete at (Ints size) target) C a b c typed good good_b later e f b' sees =
      undo_delete_ints setting G n C at size target a b c typed good good_b e f b' sees
  undo_statement n ih (Delete at (Objects class size) target) C a b c typed good good_b later e f b' sees =
      undo_delete_objects setting G n C at class size target a b c typed good good_b e f b' sees
  undo_statement n ih (Copy at kind source target) C a b c typed good good_b later e f b' sees =
      undo_copy setting G n C at kind source target a b c typed good good_b e f b' sees
  undo_statement n ih (Uncopy at kind source target) C a b c typed good good_b later e f b' sees =
      undo_uncopy setting G n C at kind source target a b c typed good good_b e f b' sees
  undo_statement n ih (Call at back None method args) C a b c typed good good_b later e f b' sees =
      undo_call_own setting G n ih C at back method args a b c typed good good_b later e f b' sees
  undo_statement n ih (Call at back (Some (Whole name)) method args) C a b c typed good good_b later e f b' sees =
      undo_call setting G n ih C at back name method args a b c typed good good_b later e f b' sees
  undo_statement n ih (Call at back (Some (Item name index)) method args) C a b c typed good good_b later e f b' sees =
      undo_element setting G n ih C at back name index method args a b c typed good e f b' sees
  undo_statement n ih (Skip at) C a b c typed good good_b later e f b' sees = undo_skip setting G n at a b c e f b' sees

  -- every block is undone
  pub undo_block : (n : ℕ) → Undoes setting G n
  undo_block n C End a b c typed good e f b' sees =
      let is = done_result a b 0 c e in
      let P : State → Type 0 = λ s. Sees setting.limits.heap f s b' in
      let Q : ℕ → Type 0 = λ k. Runs setting End b' b' k in
      record {
        back = b';
        names = f;
        runs = subst Q (done_cost a b 0 c e) (runs_end setting b');
        sees = subst P (sym is) sees;
        same = λ name o p k l. refl;
      }
  undo_block zero C (Then first rest) a b c typed good e f b' sees = cc
  undo_block (suc n) C (Then first rest) a b c typed good e f b' sees =
      let parts = split setting n first rest a b c e in
      let x = parts.middle in
      let only = G.alone C first rest typed in
      let good_x = G.keeps C (suc n) (Then first End) a x (1 + parts.before) only good
      (lone (statement setting n (exec setting n) first a) x parts.before parts.does) in
      let sound = G.sound C a good in
      let later = statement_later setting n first a x parts.before sound parts.does in
      let late = exec_later setting n rest x b parts.after later.sound parts.runs in
      let second = undo_block n C rest x b parts.after (G.rest C first rest typed) good_x parts.runs f b' sees in
      let one = undo_statement n (undo_block n) first C a x parts.before only good good_x later parts.does second.names
      second.back second.sees in
      let P : ℕ → Type 0 = λ k. Runs setting (inverse (Then first rest)) b' one.back k in
      record {
        back = one.back;
        names = one.names;
        runs = subst P (let s = parts.sum in omega arith)
            (runs_joined setting (inverse rest) (Then (inverse_statement first) End) b' second.back one.back parts.after
            (1 + (parts.before + 0)) second.runs
            (runs_then setting (inverse_statement first) End second.back one.back one.back parts.before 0
            (1 + (parts.before + 0)) one.does (runs_end setting one.back) refl));
        sees = one.sees;
        same = same_then f second.names one.names a x b sound later late second.same one.same;
      }

  -- the inverse of a block leads back from where the block led, at the same cost, to a state that
  -- agrees with the start
  pub block_leads_back : (C : G.Context) (n : ℕ) (body : Statements) (a b : State) (c : ℕ) → G.Typed C body → G.Good C a
      → exec setting n body a ≡ Done b c → InverseLeadsBack setting body a b c
  block_leads_back C n body a b c typed good e =
      let later = exec_later setting n body a b c (G.sound C a good) e in
      let back = undo_block n C body a b c typed good e same_map b (sees_itself setting.limits.heap b later.sound) in
      record {
        back = back.back;
        runs = back.runs.by c (let z : c ≤ c = omega arith in z);
        agrees = sees_agree setting.limits.heap back.names a back.back back.sees;
      }

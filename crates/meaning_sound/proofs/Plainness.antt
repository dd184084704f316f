-- An accepted program is plain.
use Rattle.std.proofs.Common.{◌≡◌, subst, refl, ℕ, zero, suc, ◌+◌, ◌<◌, true, false, List, [], ◌∷◌, ◌++◌, length}
use Rattle.std.proofs.Common.{get_or, Option, Some, None, arith, length-append}
use Rattle.std.proofs.lemmas.List.{get_or_append_left, get_or-append-add}
use Rattle.std.specs.Prelude.{All, slice_index}
use Rattle.std.specs.List.{flat_map}
use Rattle.std.specs.Str.{bytes_eq}
use Rattle.std.specs.Char.{is_ascii_alphabetic}
use Rattle.roopl_semantics.specs.rpp_tree.declared.tree.Ident.{Ident}
use Rattle.roopl_semantics.specs.rpp_tree.Tree.{Expression, Number, Null, Variable, Element, Binary, Lvalue, Whole, Item, Statement}
use Rattle.roopl_semantics.specs.rpp_tree.Tree.{Statements, Update, If, From, Construct, Local, Call, End, Then, Source}
use Rattle.roopl_semantics.specs.rpp_tree.Names.{IsName}
use Rattle.roopl_semantics.specs.rpp_tree.Parts.{expression_names, receiver_names, var_names, statement_names, block_names}
use Rattle.roopl_semantics.specs.rpp_tree.Parts.{procedure_names, parent_names, class_names}
use Rattle.roopl_semantics.specs.class_rules.Program.{IsAccepted}
use Rattle.meaning_sound.proofs.Numbered.{program_words}
use Rattle.meaning_sound.specs.Plain.{IsNamed, HasNames, AreNamed, ReceiverIsPlain, StatementIsPlain, IsPlain}
use Rattle.meaning_sound.specs.Plain.{ProgramIsPlain, ReceiverHasWords, StatementHasWords, BlockHasWords}
use Rattle.meaning_sound.specs.Plain.{ProgramHasWords}

abbrev Named : List Ident → Type 0
Named names = All (λ (name : Ident). IsName name.text) names

module _ {A : Type 0} (P : A → Type 0) where
  all_left : (xs ys : List A) → All P (xs ++ ys) → All P xs
  all_left xs ys h k d l = subst P (get_or_append_left xs ys d k l) (h k d (omega (arith, length-append xs ys)))

  all_right : (xs ys : List A) → All P (xs ++ ys) → All P ys
  all_right xs ys h k d l = subst P (get_or-append-add xs ys k d)
      (h (length xs + k) d (omega (arith, length-append xs ys)))

  all_head : (x : A) (xs : List A) → All P (x ∷ xs) → P x
  all_head x xs h = h 0 x (omega arith)

  all_tail : (x : A) (xs : List A) → All P (x ∷ xs) → All P xs
  all_tail x xs h k d l = h (suc k) d (omega arith)

  all_flat : {B : Type 0} (f : B → List A) (xs : List B) (k : ℕ) (d : B) → All P (flat_map f xs) → k < length xs
      → All P (f (get_or xs k d))
  all_flat f [] k d h l = absurd (omega arith)
  all_flat f (x ∷ xs) zero d h l = all_left (f x) (flat_map f xs) h
  all_flat f (x ∷ xs) (suc k) d h l = all_flat f xs k d (all_right (f x) (flat_map f xs) h) (omega arith)

is_named : (name : Ident) → IsName name.text → IsNamed name
is_named name h = by name.text h.letter
  where
    by : (text : List ℕ) → is_ascii_alphabetic (slice_index text 0) ≡ true → bytes_eq [] text ≡ false
    by [] e = absurd (cc)
    by (x ∷ text) e = refl

abbrev P : Ident → Type 0
P name = IsName name.text

has_names : (e : Expression) → Named (expression_names e) → HasNames e
has_names (Number at word) h = tt
has_names (Null at) h = tt
has_names (Variable name) h = is_named name (all_head P name [] h)
has_names (Element name index) h = (
  is_named name (all_head P name (expression_names index) h),
  has_names index (all_tail P name (expression_names index) h),
)
has_names (Binary at op left right) h = (
  has_names left (all_left P (expression_names left) (expression_names right) h),
  has_names right (all_right P (expression_names left) (expression_names right) h),
)

are_named : (names : List Ident) → Named names → AreNamed names
are_named [] h = tt
are_named (name ∷ names) h = (is_named name (all_head P name names h), are_named names (all_tail P name names h))

receiver_plain : (receiver : Option Lvalue) (method : Ident) (args : List Ident)
    → Named (receiver_names receiver ++ method ∷ args) → ReceiverHasWords receiver → ReceiverIsPlain receiver args
receiver_plain None method args h w = tt
receiver_plain (Some (Whole name)) method args h w = tt
receiver_plain (Some (Item name index)) method args h w =
    let names = all_left P (name ∷ expression_names index) (method ∷ args) h in
    let rest = all_right P (name ∷ expression_names index) (method ∷ args) h in (
      w,
      is_named name (all_head P name (expression_names index) names),
      has_names index (all_tail P name (expression_names index) names),
      are_named args (all_tail P method args rest),
    )

mutual
  statement_plain : (s : Statement) → Named (statement_names s) → StatementHasWords s → StatementIsPlain s
  statement_plain (Update at op target value) h w = w
  statement_plain (If at test taken other after) h w =
      let a = all_left P (expression_names test ++ block_names taken ++ block_names other) (expression_names after) h in
      let b = all_left P (expression_names test ++ block_names taken) (block_names other) a in (
        w.0,
        block_plain taken (all_right P (expression_names test) (block_names taken) b) w.1,
        block_plain other (all_right P (expression_names test ++ block_names taken) (block_names other) a) w.2,
        w.3,
      )
  statement_plain (From at entry first again exit) h w =
      let a = all_left P (expression_names entry ++ block_names first ++ block_names again) (expression_names exit) h in
      let b = all_left P (expression_names entry ++ block_names first) (block_names again) a in (
        w.0,
        block_plain first (all_right P (expression_names entry) (block_names first) b) w.1,
        block_plain again (all_right P (expression_names entry ++ block_names first) (block_names again) a) w.2,
        w.3,
      )
  statement_plain (Construct at class name body end) h w =
      block_plain body (all_left P (block_names body) (end ∷ [])
      (all_tail P name (block_names body ++ end ∷ []) (all_tail P class (name ∷ block_names body ++ end ∷ []) h)))
      w
  statement_plain (Local at var value body end_var end_value) h w =
      let a = all_left P (var_names var ++ expression_names value ++ block_names body ++ var_names end_var)
      (expression_names end_value) h in
      let b = all_left P (var_names var ++ expression_names value ++ block_names body) (var_names end_var) a in
      (w.0, block_plain body (all_right P (var_names var ++ expression_names value) (block_names body) b) w.1, w.2)
  statement_plain (Call at back receiver method args) h w = receiver_plain receiver method args h w
  statement_plain _ h w = w

  block_plain : (body : Statements) → Named (block_names body) → BlockHasWords body → IsPlain body
  block_plain End h w = tt
  block_plain (Then first rest) h w = (
    statement_plain first (all_left P (statement_names first) (block_names rest) h) w.0,
    block_plain rest (all_right P (statement_names first) (block_names rest) h) w.1,
  )

plain_words : (program : Source) → IsAccepted program → ProgramHasWords program → ProgramIsPlain program
plain_words program accepted words k d l j e i =
    let class = get_or program.classes k d in
    let method = get_or class.methods j e in
    let names = all_flat P class_names program.classes k d accepted.limits.names l in
    let methods = all_right P (class.name ∷ parent_names class.parent ++ flat_map var_names class.fields)
    (flat_map procedure_names class.methods) names in
    let own = all_flat P procedure_names class.methods j e methods i in
    block_plain method.body (all_right P (method.name ∷ flat_map var_names method.params) (block_names method.body) own)
    (words k d l j e i)

-- the limits of a tree bound its literals
pub program_plain : (program : Source) → IsAccepted program → ProgramIsPlain program
program_plain program accepted = plain_words program accepted (program_words program accepted.limits.numbers)

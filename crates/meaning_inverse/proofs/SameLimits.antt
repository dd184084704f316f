-- An inverse program keeps the limits of a tree that the program keeps: its parts are the same, in
-- another order.
use Rattle.std.proofs.Common.{◌≡◌, ℕ, ◌+◌, ◌<◌, ◌≤◌, refl, sym, ap, subst, ◌∙◌, arith, false, List, [], ◌∷◌, ◌++◌}
use Rattle.std.proofs.Common.{length, map, max, sum_by, add_comm}
use Rattle.std.proofs.lemmas.List.{append_assoc, append-nil, length-map}
use Rattle.std.proofs.lemmas.List.Sums.{sum_by-cons}
use Rattle.std.proofs.lemmas.List.Sorted.{IsPermutation-refl, IsPermutation-sym, IsPermutation-trans}
use Rattle.std.proofs.lemmas.List.Sorted.{IsPermutation-cons, IsPermutation-append, IsPermutation-append_comm}
use Rattle.std.proofs.lemmas.List.Sorted.{All-permutation, sum_by-IsPermutation}
use Rattle.std.specs.List.{All, flat_map}
use Rattle.std.specs.List.Sorted.{IsPermutation}
use Rattle.std.proofs.lemmas.List.Elements.{All-map, All-weaker}
use Rattle.meaning_reached.specs.rpp_tree.declared.tree.Ident.{Ident}
use Rattle.meaning_reached.specs.rpp_tree.declared.limits.TheConstants.{MOST_BYTES, MOST_TOKENS, MOST_NODES, MOST_NUMBER}
use Rattle.meaning_reached.specs.rpp_tree.declared.limits.TheConstants.{MOST_INDEX_DEPTH, MOST_CLASSES, MOST_LOCALS, MOST_NESTING}
use Rattle.meaning_reached.specs.rpp_tree.Tree.{Statement, Statements, End, Then, joined, Procedure, ClassText, Source, part_nodes}
use Rattle.meaning_reached.specs.rpp_tree.Names.{IsName}
use Rattle.meaning_reached.specs.rpp_tree.Numbers.{expression_numbers, numbers, statement_numbers, block_numbers, procedure_numbers}
use Rattle.meaning_reached.specs.rpp_tree.Numbers.{class_numbers, source_numbers}
use Rattle.meaning_reached.specs.rpp_tree.Parts.{expression_names, var_names, names, statement_names, block_names, procedure_names}
use Rattle.meaning_reached.specs.rpp_tree.Parts.{parent_names, class_names, source_names, name_places, expression_places, var_places}
use Rattle.meaning_reached.specs.rpp_tree.Parts.{places, statement_places, block_places, procedure_places, class_places, source_places}
use Rattle.meaning_reached.specs.rpp_tree.Parts.{var_tokens, list_tokens, tokens, statement_tokens, block_tokens, procedure_tokens}
use Rattle.meaning_reached.specs.rpp_tree.Parts.{parent_tokens, class_tokens}
use Rattle.meaning_reached.specs.rpp_tree.Limits.{part_index_depth, small, IsSmallStatement, AreSmall, IsSmallMethod, IsWithinLimits}
use Rattle.meaning_reached.proofs.rpp_tree_laws.Walks.{walk_joined}
use Rattle.meaning_reached.specs.inverse_rules.Inverse.{inverse_statement_as, inverse_as, inverse_procedure, inverse_class}
use Rattle.meaning_reached.specs.inverse_rules.Inverse.{inverse_program}
use Rattle.meaning_reached.proofs.inverse_rules_laws.InverseWalks.{IsTurned, block_turned as walk_block_turned, own_parts_turned}
use Rattle.meaning_reached.proofs.inverse_rules_laws.InverseWalks.{depth_undone, locals_undone}

-- ---- lists with the same elements

-- what is in the middle stays there, and the ends are exchanged
ends : {A : Type 0} (first middle inner last : List A) → IsPermutation middle inner
    → IsPermutation (last ++ middle ++ first) (first ++ inner ++ last)
ends first middle inner last h =
    IsPermutation-trans _ _ _ (IsPermutation-append_comm (last ++ middle) first)
    (IsPermutation-trans _ _ _ (IsPermutation-append first first (last ++ middle) (inner ++ last)
    (IsPermutation-refl first) (IsPermutation-trans _ _ _ (IsPermutation-append_comm last middle)
    (IsPermutation-append middle inner last last h (IsPermutation-refl last))))
    (subst (λ l. IsPermutation (first ++ (inner ++ last)) l) (sym (append_assoc first inner last))
    (IsPermutation-refl (first ++ (inner ++ last)))))

-- with two parts in the middle
ends_of_two : {A : Type 0} (first one two some more last : List A) → IsPermutation one some → IsPermutation two more
    → IsPermutation (last ++ one ++ two ++ first) (first ++ some ++ more ++ last)
ends_of_two first one two some more last h k =
    subst (λ l. IsPermutation (l ++ first) (first ++ some ++ more ++ last)) (sym (append_assoc last one two))
    (subst (λ l. IsPermutation (last ++ (one ++ two) ++ first) (l ++ last)) (sym (append_assoc first some more))
    (ends first (one ++ two) (some ++ more) last (IsPermutation-append one some two more h k)))

-- with two parts at each end
two_ends : {A : Type 0} (var first middle inner end last : List A) → IsPermutation middle inner
    → IsPermutation (end ++ last ++ middle ++ var ++ first) (var ++ first ++ inner ++ end ++ last)
two_ends var first middle inner end last h =
    subst (λ l. IsPermutation l (var ++ first ++ inner ++ end ++ last))
    (sym (append_assoc (end ++ last ++ middle) var first))
    (subst (λ l. IsPermutation (end ++ last ++ middle ++ (var ++ first)) l)
    (sym (append_assoc (var ++ first ++ inner) end last))
    (ends (var ++ first) middle inner (end ++ last) h))

-- a reversed block
block_turned : {A : Type 0} (first rest was_first was_rest : List A) → IsPermutation first was_first
    → IsPermutation rest was_rest → IsPermutation (rest ++ (first ++ [])) (was_first ++ was_rest)
block_turned first rest was_first was_rest h k =
    subst (λ l. IsPermutation (rest ++ l) (was_first ++ was_rest)) (sym (append-nil first))
    (IsPermutation-trans _ _ _ (IsPermutation-append_comm rest first)
    (IsPermutation-append first was_first rest was_rest h k))

-- the parts of elements, each of which changes
each_turned : {A B : Type 0} (parts : B → List A) (g : B → B) → ((x : B) → IsPermutation (parts (g x)) (parts x))
    → (xs : List B) → IsPermutation (flat_map parts (map g xs)) (flat_map parts xs)
each_turned parts g h [] = IsPermutation-refl []
each_turned parts g h (x ∷ xs) = IsPermutation-append (parts (g x)) (parts x) (flat_map parts (map g xs))
    (flat_map parts xs) (h x) (each_turned parts g h xs)

behind : {A : Type 0} (front first second : List A) → IsPermutation first second
    → IsPermutation (front ++ first) (front ++ second)
behind front first second h = IsPermutation-append front front first second (IsPermutation-refl front) h

before : {A : Type 0} (first second rest : List A) → IsPermutation first second
    → IsPermutation (first ++ rest) (second ++ rest)
before first second rest h = IsPermutation-append first second rest rest h (IsPermutation-refl rest)

-- a block whose last statement was the first
last_in : {A : Type 0} (whole front last said rest : List A) → whole ≡ front ++ (last ++ [])
    → IsPermutation last said → IsPermutation front rest → IsPermutation whole (said ++ rest)
last_in whole front last said rest is h k =
    subst (λ l. IsPermutation l (said ++ rest)) (sym is) (block_turned last front said rest h k)

-- ---- names

names_joined : (a b : Statements) → block_names (joined a b) ≡ block_names a ++ block_names b
names_joined = walk_joined names ◌++◌ (λ first said rest. refl) (λ rest. refl) append_assoc

names_turned : IsTurned (λ (a b : List Ident). IsPermutation a b) names false
names_turned = record {
  plain = λ at parts. IsPermutation-refl _;
  forked = λ at before a b c d after h k.
      ends_of_two (expression_names before) a b c d (expression_names after) h k;
  construct = λ at class name a c end h.
      IsPermutation-cons class _ _ (IsPermutation-cons name _ _ (before a c (end ∷ []) h));
  local = λ at var value a c end_var end_value h.
      two_ends (var_names var) (expression_names value) a c (var_names end_var) (expression_names end_value) h;
  none = IsPermutation-refl _;
  last = λ first body said rest h k.
      last_in _ (block_names body) (statement_names (inverse_statement_as false first)) said rest
      (names_joined body (Then (inverse_statement_as false first) End)) h k;
}

names_kept : (b : Statements) → IsPermutation (block_names (inverse_as false b)) (block_names b)
names_kept b = walk_block_turned names_turned b

procedure_names_kept : (method : Procedure) → IsPermutation (procedure_names (inverse_procedure method))
    (procedure_names method)
procedure_names_kept method = IsPermutation-cons method.name _ _
    (behind (flat_map var_names method.params) _ _ (names_kept method.body))

class_names_kept : (class : ClassText) → IsPermutation (class_names (inverse_class class)) (class_names class)
class_names_kept class = IsPermutation-cons class.name _ _
    (behind (parent_names class.parent ++ flat_map var_names class.fields) _ _
    (each_turned procedure_names inverse_procedure procedure_names_kept class.methods))

source_names_kept : (program : Source) → IsPermutation (source_names (inverse_program program)) (source_names program)
source_names_kept program = each_turned class_names inverse_class class_names_kept program.classes

-- ---- places

places_joined : (a b : Statements) → block_places (joined a b) ≡ block_places a ++ block_places b
places_joined = walk_joined places ◌++◌ (λ first said rest. refl) (λ rest. refl) append_assoc

places_turned : IsTurned (λ (a b : List ℕ). IsPermutation a b) places false
places_turned = record {
  plain = λ at parts. IsPermutation-refl _;
  forked = λ at before a b c d after h k. IsPermutation-cons at _ _
      (ends_of_two (expression_places before) a b c d (expression_places after) h k);
  construct = λ at class name a c end h. IsPermutation-cons at _ _
      (IsPermutation-cons class.at _ _ (IsPermutation-cons name.at _ _ (before a c (end.at ∷ []) h)));
  local = λ at var value a c end_var end_value h. IsPermutation-cons at _ _
      (two_ends (var_places var) (expression_places value) a c (var_places end_var) (expression_places end_value) h);
  none = IsPermutation-refl _;
  last = λ first body said rest h k.
      last_in _ (block_places body) (statement_places (inverse_statement_as false first)) said rest
      (places_joined body (Then (inverse_statement_as false first) End)) h k;
}

places_kept : (b : Statements) → IsPermutation (block_places (inverse_as false b)) (block_places b)
places_kept b = walk_block_turned places_turned b

procedure_places_kept : (method : Procedure) → IsPermutation (procedure_places (inverse_procedure method))
    (procedure_places method)
procedure_places_kept method = IsPermutation-cons method.name.at _ _
    (behind (flat_map var_places method.params) _ _ (places_kept method.body))

class_places_kept : (class : ClassText) → IsPermutation (class_places (inverse_class class)) (class_places class)
class_places_kept class = IsPermutation-cons class.name.at _ _
    (behind (name_places (parent_names class.parent) ++ flat_map var_places class.fields) _ _
    (each_turned procedure_places inverse_procedure procedure_places_kept class.methods))

source_places_kept : (program : Source) → IsPermutation (source_places (inverse_program program))
    (source_places program)
source_places_kept program = each_turned class_places inverse_class class_places_kept program.classes

-- ---- numbers

numbers_joined : (a b : Statements) → block_numbers (joined a b) ≡ block_numbers a ++ block_numbers b
numbers_joined = walk_joined numbers ◌++◌ (λ first said rest. refl) (λ rest. refl) append_assoc

numbers_turned : IsTurned (λ (a b : List ℕ). IsPermutation a b) numbers false
numbers_turned = record {
  plain = λ at parts. IsPermutation-refl _;
  forked = λ at before a b c d after h k.
      ends_of_two (expression_numbers before) a b c d (expression_numbers after) h k;
  construct = λ at class name a c end h. h;
  local = λ at var value a c end_var end_value h.
      ends (expression_numbers value) a c (expression_numbers end_value) h;
  none = IsPermutation-refl _;
  last = λ first body said rest h k.
      last_in _ (block_numbers body) (statement_numbers (inverse_statement_as false first)) said rest
      (numbers_joined body (Then (inverse_statement_as false first) End)) h k;
}

numbers_kept : (b : Statements) → IsPermutation (block_numbers (inverse_as false b)) (block_numbers b)
numbers_kept b = walk_block_turned numbers_turned b

source_numbers_kept : (program : Source) → IsPermutation (source_numbers (inverse_program program))
    (source_numbers program)
source_numbers_kept program =
    each_turned class_numbers inverse_class (λ class. each_turned procedure_numbers inverse_procedure
    (λ method. numbers_kept method.body) class.methods) program.classes

-- ---- tokens

sum_turned : (a b c : ℕ) → (a + b) + c ≡ a + (b + c)
sum_turned a b c = omega arith

tokens_joined : (a b : Statements) → block_tokens (joined a b) ≡ block_tokens a + block_tokens b
tokens_joined = walk_joined tokens ◌+◌ (λ first said rest. refl) (λ rest. omega arith) sum_turned

sum_in : (whole front last said rest : ℕ) → whole ≡ front + (last + 0) → last ≡ said → front ≡ rest
    → whole ≡ said + rest
sum_in whole front last said rest is h k = omega (arith, is, h, k)

tokens_turned : IsTurned (λ (a b : ℕ). a ≡ b) tokens false
tokens_turned = record {
  plain = λ at parts. refl;
  forked = λ at before a b c d after h k. omega (arith, h, k);
  construct = λ at class name a c end h. omega (arith, h);
  local = λ at var value a c end_var end_value h. omega (arith, h);
  none = refl;
  last = λ first body said rest h k.
      sum_in _ (block_tokens body) (statement_tokens (inverse_statement_as false first)) said rest
      (tokens_joined body (Then (inverse_statement_as false first) End)) h k;
}

tokens_kept : (b : Statements) → block_tokens (inverse_as false b) ≡ block_tokens b
tokens_kept b = walk_block_turned tokens_turned b

sum_after : {A : Type 0} (size : A → ℕ) (g : A → A) → ((x : A) → size (g x) ≡ size x) → (xs : List A)
    → sum_by size (map g xs) ≡ sum_by size xs
sum_after size g h [] = refl
sum_after size g h (x ∷ xs) = sum_by-cons size (g x) (map g xs)
    ∙ (let e = h x in let k = sum_after size g h xs in let z : size (g x) + sum_by size (map g xs)
    ≡ size x + sum_by size xs = omega arith in z) ∙ sym (sum_by-cons size x xs)

class_tokens_kept : (class : ClassText) → class_tokens (inverse_class class) ≡ class_tokens class
class_tokens_kept class =
    ap (λ n. 2 + parent_tokens class.parent + sum_by var_tokens class.fields + n)
    (sum_after procedure_tokens inverse_procedure (λ method. ap (λ n. 4 + list_tokens var_tokens method.params + n)
    (tokens_kept method.body)) class.methods)

-- ---- nodes and indexes

max_swaps : (a b : ℕ) → max a b ≡ max b a
max_swaps a b = omega arith

statement_small : (s : Statement) → IsSmallStatement s → IsSmallStatement (inverse_statement_as false s)
statement_small s h = record {
  nodes = subst (λ n. n ≤ MOST_NODES) (sym (own_parts_turned ◌+◌ part_nodes 0 add_comm false s)) h.nodes;
  indexes = subst (λ n. n ≤ MOST_INDEX_DEPTH) (sym (own_parts_turned max part_index_depth 0 max_swaps false s))
      h.indexes;
}

small_joined : (a b : Statements) → AreSmall a → AreSmall b → AreSmall (joined a b)
small_joined End b h k = k
small_joined (Then s a) b h k = (h.0, h.1, small_joined a b h.2 k)

small_turned : IsTurned (λ (A B : Type 0). B → A) small false
small_turned = record {
  plain = λ at parts h. h;
  forked = λ at before a b c d after h k all. (h all.0, k all.1);
  construct = λ at class name a c end h. h;
  local = λ at var value a c end_var end_value h. h;
  none = λ h. h;
  last = λ first body said rest h k all.
      small_joined body (Then (inverse_statement_as false first) End) (k all.2)
      (statement_small first all.0, h all.1, tt);
}

method_small : (method : Procedure) → IsSmallMethod method → IsSmallMethod (inverse_procedure method)
method_small method h =
    record {
      parameters = h.parameters;
      locals_nested = subst (λ n. n ≤ MOST_LOCALS) (sym (locals_undone false method.body)) h.locals_nested;
      nesting = subst (λ n. n ≤ MOST_NESTING) (sym (depth_undone false method.body)) h.nesting;
      statements = walk_block_turned small_turned method.body h.statements;
    }

-- an inverse program keeps the limits of a tree
pub within_limits : (program : Source) → IsWithinLimits program → IsWithinLimits (inverse_program program)
within_limits program h =
    record {
      classes_few = subst (λ n. n ≤ MOST_CLASSES) (sym (length-map program.classes inverse_class)) h.classes_few;
      methods_small = All-map (λ (class : ClassText). All IsSmallMethod class.methods) inverse_class program.classes
          (All-weaker (λ (class : ClassText). All IsSmallMethod class.methods)
          (λ (class : ClassText). All IsSmallMethod (inverse_class class).methods)
          (λ class k. All-map IsSmallMethod inverse_procedure class.methods
          (All-weaker IsSmallMethod (λ m. IsSmallMethod (inverse_procedure m)) method_small class.methods k))
          program.classes h.methods_small);
      tokens_few = subst (λ n. n ≤ MOST_TOKENS) (sym (sum_after class_tokens inverse_class class_tokens_kept
          program.classes)) h.tokens_few;
      places = All-permutation (λ at. at < MOST_BYTES) (source_places program) (source_places (inverse_program program))
          (IsPermutation-sym _ _ (source_places_kept program)) h.places;
      names = All-permutation (λ (name : Ident). IsName name.text) (source_names program)
          (source_names (inverse_program program)) (IsPermutation-sym _ _ (source_names_kept program)) h.names;
      name_bytes = subst (λ n. n ≤ MOST_BYTES) (sum_by-IsPermutation (λ (name : Ident). length name.text)
          (source_names (inverse_program program)) (source_names program) (source_names_kept program)) h.name_bytes;
      numbers = All-permutation (λ number. number ≤ MOST_NUMBER) (source_numbers program)
          (source_numbers (inverse_program program)) (IsPermutation-sym _ _ (source_numbers_kept program)) h.numbers;
    }

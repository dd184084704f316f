-- The keywords are the words that are no names, and each is a letter with name bytes.
use Rattle.std.proofs.Common.{◌≡◌, ℕ, ◌<◌, Bool, true, false, List, [], ◌∷◌, get_or, refl, arith}
use Rattle.std.specs.List.{list_any, list_all, AllPass, AllByRecursion}
use Rattle.std.specs.Str.{bytes_eq}
use Rattle.std.specs.Char.{is_ascii_alphabetic}
use Rattle.std.proofs.lemmas.Slice.Eq.{bytes_eq-Decides}
use Rattle.std.proofs.lemmas.List.Sums.{AllPass-from_list_all}
use Rattle.rpp_tree.specs.rpp_words.Names.{is_name_byte}
use Rattle.rpp_tree.specs.Names.{is_keyword, keywords}
use Rattle.roopl_lexer.specs.declared.token.Keyword.{Keyword}
use Rattle.roopl_lexer.specs.declared.token.Keyword.TheVariants.{Class, Inherits, Method, Int, Nil, Skip, If, Then}
use Rattle.roopl_lexer.specs.declared.token.Keyword.TheVariants.{Else, Fi, From, Do, Loop, Until, Local, Delocal}
use Rattle.roopl_lexer.specs.declared.token.Keyword.TheVariants.{Construct, Destruct, New, Delete, Copy, Uncopy, Call}
use Rattle.roopl_lexer.specs.declared.token.Keyword.TheVariants.{Uncall}
use Rattle.roopl_lexer.specs.declared.word.TheConstants.{KEYWORDS}
use Rattle.roopl_lexer.specs.Signs.{keyword_bytes}

pub is_keyword-keyword_bytes : (keyword : Keyword) → is_keyword (keyword_bytes keyword) ≡ true
unfolding is_keyword keywords
is_keyword-keyword_bytes Class = refl
is_keyword-keyword_bytes _ = refl

pub keyword_letter : (keyword : Keyword) → is_ascii_alphabetic (get_or (keyword_bytes keyword) 0 0) ≡ true
keyword_letter Class = refl
keyword_letter _ = refl

keyword_list : (keyword : Keyword) → list_all is_name_byte (keyword_bytes keyword) ≡ true
keyword_list Class = refl
keyword_list _ = refl

pub keyword_name_bytes : (keyword : Keyword) → AllPass is_name_byte (keyword_bytes keyword)
keyword_name_bytes keyword = AllPass-from_list_all is_name_byte (keyword_bytes keyword) (keyword_list keyword)

differs : (bytes word : List ℕ) → (bytes ≡ word → ⊥) → bytes_eq bytes word ≡ false
differs bytes word apart = by (bytes_eq bytes word) (bytes_eq-Decides bytes word).0
  where
    by : (test : Bool) → (test ≡ true → bytes ≡ word) → test ≡ false
    by true same = absurd (apart (same refl))
    by false same = refl

none_of : (test : List ℕ → Bool) (words : List (List ℕ)) → AllByRecursion (λ word. test word ≡ false) words
    → list_any test words ≡ false
none_of test [] each = refl
none_of test (word ∷ words) each = rw each.0 (none_of test words each.1)

pub no_keyword : (bytes : List ℕ) → ((keyword : Keyword) → bytes ≡ keyword_bytes keyword → ⊥) → is_keyword bytes ≡ false
unfolding is_keyword keywords
no_keyword bytes none =
    let no : (keyword : Keyword) → bytes_eq bytes (keyword_bytes keyword) ≡ false =
    λ keyword. differs bytes (keyword_bytes keyword) (none keyword) in
    none_of (bytes_eq bytes) keywords (
      no Class,
      (
        no Inherits,
        (
          no Method,
          (
            no Int,
            (
              no Nil,
              (
                no Skip,
                (
                  no If,
                  (
                    no Then,
                    (
                      no Else,
                      (
                        no Fi,
                        (
                          no From,
                          (
                            no Do,
                            (
                              no Loop,
                              (
                                no Until,
                                (
                                  no Local,
                                  (
                                    no Delocal,
                                    (
                                      no Construct,
                                      (
                                        no Destruct,
                                        (
                                          no New,
                                          (no Delete, (no Copy, (no Uncopy, (no Call, (no Uncall, tt))))),
                                        ),
                                      ),
                                    ),
                                  ),
                                ),
                              ),
                            ),
                          ),
                        ),
                      ),
                    ),
                  ),
                ),
              ),
            ),
          ),
        ),
      ),
    )

-- the number of a keyword in the table
abbrev pub number_of : Keyword → ℕ
number_of Class = 0
number_of Inherits = 1
number_of Method = 2
number_of Int = 3
number_of Nil = 4
number_of Skip = 5
number_of If = 6
number_of Then = 7
number_of Else = 8
number_of Fi = 9
number_of From = 10
number_of Do = 11
number_of Loop = 12
number_of Until = 13
number_of Local = 14
number_of Delocal = 15
number_of Construct = 16
number_of Destruct = 17
number_of New = 18
number_of Delete = 19
number_of Copy = 20
number_of Uncopy = 21
number_of Call = 22
number_of Uncall = 23

pub number_of-below : (keyword : Keyword) → number_of keyword < 24
number_of-below Class = omega arith
number_of-below _ = omega arith

pub keyword_at : (keyword : Keyword) → get_or KEYWORDS (number_of keyword) Class ≡ keyword
keyword_at Class = refl
keyword_at _ = refl

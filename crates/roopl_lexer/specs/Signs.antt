-- The fixed tokens and their bytes.
use Rattle.std.specs.Prelude.{ℕ, List, codes}
use Rattle.roopl_lexer.specs.declared.token.Keyword.{Keyword}
use Rattle.roopl_lexer.specs.declared.token.Keyword.TheVariants.{Class, Inherits, Method, Int, Nil}
use Rattle.roopl_lexer.specs.declared.token.Keyword.TheVariants.{Skip, If, Then, Else, Fi, From, Do}
use Rattle.roopl_lexer.specs.declared.token.Keyword.TheVariants.{Loop, Until, Local, Delocal}
use Rattle.roopl_lexer.specs.declared.token.Keyword.TheVariants.{Construct, Destruct, New, Delete}
use Rattle.roopl_lexer.specs.declared.token.Keyword.TheVariants.{Copy, Uncopy, Call, Uncall}
use Rattle.roopl_lexer.specs.declared.token.Symbol.{Symbol}
use Rattle.roopl_lexer.specs.declared.token.Symbol.TheVariants.{AddTo, SubFrom, XorInto, Swap, Plus}
use Rattle.roopl_lexer.specs.declared.token.Symbol.TheVariants.{Minus, Caret, Amp, Bar, AmpAmp}
use Rattle.roopl_lexer.specs.declared.token.Symbol.TheVariants.{BarBar, Less, Greater, AtMost}
use Rattle.roopl_lexer.specs.declared.token.Symbol.TheVariants.{AtLeast, Equal, NotEqual, Star}
use Rattle.roopl_lexer.specs.declared.token.Symbol.TheVariants.{Slash, Percent, LeftParen}
use Rattle.roopl_lexer.specs.declared.token.Symbol.TheVariants.{RightParen, LeftBracket}
use Rattle.roopl_lexer.specs.declared.token.Symbol.TheVariants.{RightBracket, Comma, DoubleColon}

-- the bytes of a keyword
abbrev pub keyword_bytes : Keyword → List ℕ
keyword_bytes Class = codes "class"
keyword_bytes Inherits = codes "inherits"
keyword_bytes Method = codes "method"
keyword_bytes Int = codes "int"
keyword_bytes Nil = codes "nil"
keyword_bytes Skip = codes "skip"
keyword_bytes If = codes "if"
keyword_bytes Then = codes "then"
keyword_bytes Else = codes "else"
keyword_bytes Fi = codes "fi"
keyword_bytes From = codes "from"
keyword_bytes Do = codes "do"
keyword_bytes Loop = codes "loop"
keyword_bytes Until = codes "until"
keyword_bytes Local = codes "local"
keyword_bytes Delocal = codes "delocal"
keyword_bytes Construct = codes "construct"
keyword_bytes Destruct = codes "destruct"
keyword_bytes New = codes "new"
keyword_bytes Delete = codes "delete"
keyword_bytes Copy = codes "copy"
keyword_bytes Uncopy = codes "uncopy"
keyword_bytes Call = codes "call"
keyword_bytes Uncall = codes "uncall"

-- the bytes of a symbol
abbrev pub sign_bytes : Symbol → List ℕ
sign_bytes AddTo = codes "+="
sign_bytes SubFrom = codes "-="
sign_bytes XorInto = codes "^="
sign_bytes Swap = codes "<=>"
sign_bytes Plus = codes "+"
sign_bytes Minus = codes "-"
sign_bytes Caret = codes "^"
sign_bytes Amp = codes "&"
sign_bytes Bar = codes "|"
sign_bytes AmpAmp = codes "&&"
sign_bytes BarBar = codes "||"
sign_bytes Less = codes "<"
sign_bytes Greater = codes ">"
sign_bytes AtMost = codes "<="
sign_bytes AtLeast = codes ">="
sign_bytes Equal = codes "="
sign_bytes NotEqual = codes "!="
sign_bytes Star = codes "*"
sign_bytes Slash = codes "/"
sign_bytes Percent = codes "%"
sign_bytes LeftParen = codes "("
sign_bytes RightParen = codes ")"
sign_bytes LeftBracket = codes "["
sign_bytes RightBracket = codes "]"
sign_bytes Comma = codes ","
sign_bytes DoubleColon = codes "::"

-- The names of the commands.
use Rattle.std.specs.Prelude.{ℕ, List, Some, None, if◌then◌else◌, codes}
use Rattle.std.specs.declared.option.Option.{Option}
use Rattle.std.specs.Str.{bytes_eq}

-- the first word of a command
pub data CommandName : Type 0 where
  Check : CommandName
  Compile : CommandName
  Asm : CommandName
  ListImage : CommandName
  Flip : CommandName
  ShowInverse : CommandName
  Generate : CommandName
  Cluster : CommandName
  RunImage : CommandName
  Debug : CommandName
  Trace : CommandName
  Go : CommandName
  Turn : CommandName
  Profile : CommandName
  Wrap : CommandName
  Explain : CommandName

-- the command on sources that a word names, if it names one
unfoldable pub source_command_named : List ℕ → Option CommandName
source_command_named word =
    if bytes_eq word (codes "check") then Some Check
    else if bytes_eq word (codes "compile") then Some Compile
    else if bytes_eq word (codes "show-inverse") then Some ShowInverse
    else if bytes_eq word (codes "generate") then Some Generate
    else if bytes_eq word (codes "go") then Some Go
    else if bytes_eq word (codes "turn") then Some Turn
    else if bytes_eq word (codes "profile") then Some Profile
    else if bytes_eq word (codes "wrap") then Some Wrap
    else if bytes_eq word (codes "explain") then Some Explain
    else if bytes_eq word (codes "trace") then Some Trace
    else None

-- the command that a word names, if it names one
unfoldable pub command_named : List ℕ → Option CommandName
command_named word =
    if bytes_eq word (codes "asm") then Some Asm
    else if bytes_eq word (codes "list") then Some ListImage
    else if bytes_eq word (codes "flip") then Some Flip
    else if bytes_eq word (codes "run") then Some RunImage
    else if bytes_eq word (codes "debug") then Some Debug
    else if bytes_eq word (codes "cluster") then Some Cluster
    else source_command_named word

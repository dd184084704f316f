-- The replies to requests in the run of an image, and where they lead.
use Rattle.std.specs.Prelude.{ℕ, Bool, List, [], ◌∷◌, ◌++◌, if◌then◌else◌, Option, Some, None}
use Rattle.std.specs.Prelude.{codes}
use Rattle.std.specs.Fmt.{decimal}
use Rattle.live_talks.specs.pisa_scripts.Lines.{pieces}
use Rattle.live_talks.specs.pisa_scripts.declared.command.Command.{Command}
use Rattle.image_searches.specs.rpp_words.Texts.{line_end}
use Rattle.image_searches.specs.pisa_machine.Position.{Position}
use Rattle.image_searches.specs.two_way_debugger.Shown.{walk_of, text_of}
use Rattle.live_talks.specs.live_requests.declared.asks.Ask.{Ask}
use Rattle.live_talks.specs.live_requests.declared.asks.Goal.{Goal}
use Rattle.live_talks.specs.live_requests.declared.request.Request.{Request}
use Rattle.live_talks.specs.live_requests.declared.request.Request.TheVariants.{Nothing, Carry, Spend}
use Rattle.live_talks.specs.live_requests.declared.request.Request.TheVariants.{Limit, Quit, Bad}
use Rattle.live_talks.specs.live_requests.Asks.{ask_of, arguments}
use Rattle.live_talks.specs.live_requests.Limited.{limited, limited_ask, is_cut_ask}
use Rattle.live_talks.specs.live_requests.Requests.{request_of}
use Rattle.image_searches.specs.Goals.{is_served}
use Rattle.image_searches.specs.Makings.{image_made}
use Rattle.image_searches.specs.Searches.{ImageFound}
use Rattle.live_talks.specs.declared.ends.End.{End}
use Rattle.live_talks.specs.declared.ends.End.TheVariants as end
use Rattle.live_talks.specs.Ends.{end_line}
use Rattle.live_images.specs.Ends.{image_end_carried, image_end_moved}

-- what a reply says before its last line, how it ends, and where it leads
pub record Answer : Type 0 where
  pub text : List ℕ
  pub ending : End
  pub position : Position

abbrev pub reply_of : Answer → List ℕ
reply_of a = a.text ++ end_line a.ending

-- a reply that is one last line, and leads nowhere
abbrev pub end_alone : End → Position → Answer
end_alone it p = record { text = []; ending = it; position = p }

-- what `debug` prints of a command that makes no more moves than a limit allows
abbrev pub carried : (limit : Option ℕ) → Command → Position → Answer
carried limit command p = record {
  text = text_of (limited limit command) p;
  ending = image_end_carried limit command p.made (walk_of (limited limit command) p).position.made
      (text_of (limited limit command) p);
  position = (walk_of (limited limit command) p).position;
}

-- the number of the position
abbrev pub reply_steps_line : ℕ → List ℕ
reply_steps_line image_made = codes "steps " ++ (decimal image_made ++ line_end)

abbrev pub spent : Position → Answer
spent p = record { text = reply_steps_line p.made; ending = end.Done; position = p }

-- the moves that words ask for, if the run of an image has them
abbrev pub served : (words : List (List ℕ)) → Option Ask → Option Ask
served words None = None
served words (Some ask) = if is_served ask.goal (arguments ask.back words) then Some ask else None

-- moves that led there; `cut` says that a limit allowed fewer than were asked for
abbrev pub moved_answer : (cut : Bool) → Goal → ImageFound → Answer
moved_answer cut goal found = record {
  text = found.text;
  ending = image_end_moved cut goal found.how found.text;
  position = found.position;
}

-- moves that words ask for
abbrev pub answered_by : (limit : Option ℕ) → Option Ask → (words : List (List ℕ)) → Position
    → Answer
answered_by limit None words p = end_alone end.Bad p
answered_by limit (Some ask) words p =
    moved_answer (is_cut_ask limit ask) ask.goal
    (image_made (limited_ask limit ask) (arguments ask.back words) p)

abbrev pub answered_words : (limit : Option ℕ) → (words : List (List ℕ)) → Position → Answer
answered_words limit words p = answered_by limit (served words (ask_of words)) words p

-- the answer to a line, by the request that it is read as
abbrev pub answered : (limit : Option ℕ) → Request → (line : List ℕ) → Position → Answer
answered limit Nothing line p = end_alone end.Done p
answered limit (Carry command) line p = carried limit command p
answered limit Spend line p = spent p
answered limit (Limit most) line p = end_alone end.Done p
answered limit Quit line p = end_alone end.Bye p
answered limit Bad line p = answered_words limit (pieces 32 line) p
answered limit request line p = end_alone end.Bad p

-- what the replies to lines say before their last lines, one after the other, without a limit
abbrev pub image_said_of : List (List ℕ) → Position → List ℕ
image_said_of [] p = []
image_said_of (line ∷ lines) p =
    (answered None (request_of line) line p).text
    ++ image_said_of lines (answered None (request_of line) line p).position

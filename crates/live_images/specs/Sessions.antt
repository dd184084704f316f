-- Sessions along the run of an image.
use Rattle.std.specs.Prelude.{◌≡◌, ℕ, List, Option}
use Rattle.image_searches.specs.pisa_machine.Position.{Position}
use Rattle.live_talks.specs.live_requests.declared.request.Request.{Request}
use Rattle.live_talks.specs.live_requests.Limited.{limit_of}
use Rattle.live_talks.specs.live_requests.Requests.{request_of}
use Rattle.live_talks.specs.Sessions.{Replier}
use Rattle.live_talks.specs.Limits.{Held, LimitedBy}
use Rattle.live_talks.specs.Serving.{Reply, OrMemory}
use Rattle.live_images.specs.declared.run.Run.{Run}
use Rattle.live_images.specs.Replies.{Answer, reply_of, answered}

-- this is the reply to a line that is read as a request, and it leads there
abbrev pub ImageRepliesBy : Request → (limit : Option ℕ) → Replier Position
ImageRepliesBy request limit line from reply to =
    (reply ≡ reply_of (answered limit request line from))
    × (to ≡ (answered limit request line from).position)

-- the reply to a line, and where it leads
abbrev pub ImageRepliesOf : (limit : Option ℕ) → Replier Position
ImageRepliesOf limit line from reply to = ImageRepliesBy (request_of line) limit line from reply to

-- the position and the limit of a run
abbrev pub held_in : Run → Held Position
held_in run = record { place = run.debugger; limit = run.limit }

-- the same as what a reply is that leads there, with the limit kept, or there is no memory for it
abbrev pub GivesAnswer : Answer → (from : Held Position) → Reply (Held Position)
GivesAnswer a from = OrMemory (λ reply to. ((reply ≡ reply_of a) × (to.place ≡ a.position))
    × (to.limit ≡ from.limit)) from

-- the reply to a line that is read as a request
abbrev pub ImageReplies : Request → (line : List ℕ) → (from : Held Position) → Reply (Held Position)
ImageReplies request line from =
    OrMemory (LimitedBy (limit_of request) (ImageRepliesBy request) line from) from

-- What a contract sees of a request that was found, and of the words that it has.
use Rattle.std.specs.Prelude.{List, [], Option, Some, None}
use Rattle.rist_nack.specs.Requests.{Request}
use Rattle.rist_nack.specs.declared.ask.Ask.{Ask}
use Rattle.rist_nack.specs.declared.requests.Found.{Found}

-- the request, without where its words lie
abbrev pub request_seen : Found → Request
request_seen f = record { flow = f.media; mask = f.is_mask; words = f.words.now }

-- the asks of a request, if there is one
abbrev pub asks_given : Option (List Ask) → List Ask
asks_given None = []
asks_given (Some asks) = asks

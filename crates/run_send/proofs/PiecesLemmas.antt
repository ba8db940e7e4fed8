-- The payloads of a sending are the first pieces of its source.
use Rattle.std.proofs.Common.{ap, subst}
use Rattle.outside_host.specs.Shelf.{Shelf}
use Rattle.rist_send.specs.Given.{Gives, GivesPayloads}
use Rattle.rist_send.specs.Served.{Outside}
use Rattle.rist_words.specs.CommandLine.{SendCommand}
use Rattle.rist_send.proofs.PacketLemmas.{sent_as_packets}
use Rattle.rist_sender.proofs.PeerLemmas.{took_all}
use Rattle.run_parts.specs.Objects.{Tells, TellsLive}
use Rattle.run_send.specs.Sent.{Sent}
use Rattle.run_send.specs.Sessions.{session_sent, setup_sent}
use Rattle.run_send.specs.Pieces.{SentInPieces}
use Rattle.run_parts.specs.declared.status.Status.{Status}

pub in_pieces : {I O E L C : Type 0} (tells : Tells I O E) (live : TellsLive L C) (old new : Shelf I O E L C) (c : SendCommand) (status : Status)
    → Sent tells live old new c status → SentInPieces tells live old new c status
in_pieces tells live old new c status s =
    record {
      source = s.source;
      spent = s.spent;
      took_source = s.took;
      gave_source = s.gave;
      was = s.links_were;
      is = s.links_are;
      count = s.link_count;
      took_links = s.links.took;
      gave_links = s.links.gave;
      history = s.to.work.history;
      given = s.given;
      taken = λ calls link d among few same.
          took_all live.line c.stream.flow (session_sent c) s.to.work.history s.links_were s.links_are link d s.given among few same (s.known calls link d among);
      sent = s.to.sent;
      packets = sent_as_packets (setup_sent c) s.end _ s.to s.sends tt;
      payloads = λ payloads told. (s.end, s.answer, subst (λ left. GivesPayloads s.end payloads left s.to.sent) (ap (λ (o : Outside). o.payloads) s.left) (s.sends.gives_payloads payloads told));
      pieces = λ octets told. (s.end, s.answer, subst (λ left. Gives s.end octets left s.to.sent) (ap (λ (o : Outside). o.octets) s.left) (s.sends.gives octets told));
    }

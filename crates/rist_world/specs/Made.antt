-- The run of a made script (this profile).
use Rattle.std.specs.Prelude.{◌≡◌, ℕ, List, codes, ◌++◌, length, take, drop, Option, Some, IfSome, true, false}
use Rattle.seq_unwrap.specs.declared.width.Width.TheVariants.{W32}
use Rattle.link_channels.specs.declared.profile.Profile.TheVariants.{Main}
use Rattle.psk_seal.specs.declared.sealer.TheConstants.{NONCE_COUNT}
use Rattle.psk_seal.specs.Nonces.{AreNonces, GiveNonces}
use Rattle.psk_seal.specs.Sealer.{SealerState}
use Rattle.request_rules.specs.declared.policy.NackKind.TheVariants.{Range}
use Rattle.sender_rules.specs.Bonding.{Duplicate}
use Rattle.gre_tunnel.specs.declared.tunnel.Tunnel.TheVariants.{Own}
use Rattle.rist_wire.specs.declared.session.Session.{Session}
use Rattle.rist_ends.specs.declared.settings.Settings.{Settings as ReceiverSettings}
use Rattle.rist_sender.specs.declared.settings.Settings.{Settings as SenderSettings}
use Rattle.made_script.specs.declared.draws.Script.{Script}
use Rattle.made_script.specs.Words.{words_from}
use Rattle.world_rules.specs.World.{Setup, IsSealerOf}
use Rattle.rist_world.specs.declared.counts.Counts.{Counts}
use Rattle.rist_world.specs.declared.running.Report.{Report}
use Rattle.rist_world.specs.World.{setup_of}
use Rattle.rist_world.specs.Drill.{Drilled, IsExact}
use Rattle.rist_world.specs.Script.{IsMadeScript}

-- the session of a made script: in the Main Profile, under a passphrase, with null packets deleted and numbers of 32
-- bits
abbrev pub made_session : Session
made_session =
    record {
      profile = Main;
      port = 1968;
      pass = Some (codes "drill");
      bits = 128;
      nulls = true;
      width = W32;
      full = false;
      tunnel = Own;
      echo = false;
    }

-- the sender of a made script, which duplicates over so many links
abbrev pub made_sender : ℕ → SenderSettings
made_sender links = record { flow = 0x10203040; first = 0; store = 2048; hold = 20; bond = Duplicate links }

-- the receiver of a made script
abbrev pub made_receiver : ReceiverSettings
made_receiver =
    record {
      delay = 1000;
      span = 2048;
      restart = 0;
      drift = false;
      reorder = 10;
      least = 20;
      tries = 8;
      nack = Range;
      own = 7;
      muted = false;
    }

-- what both ends are set to
abbrev pub made_setup : ℕ → Setup
made_setup links = setup_of made_session (made_sender links) made_receiver

-- a sealer whose nonces are those that these words give, and which has given no pair
pub record IsSealerFrom (words : List ℕ) (sealer : Option SealerState) : Type 0 where
  pub state : SealerState
  pub is : sealer ≡ Some state
  pub nonces : GiveNonces words state.nonces NONCE_COUNT
  pub fresh : state.given ≡ 0

-- a sealer was made of the first sixteen of the words that were left
pub record GivesSealer (old new : List ℕ) (sealer : Option SealerState) : Type 0 where
  pub words : List ℕ
  pub taken : old ≡ words ++ new
  pub size : length words ≡ 16
  pub made : IsSealerFrom words sealer
  pub sound : IfSome sealer (λ s. AreNonces s.nonces)

-- the words of a script that give the nonces: those of its second generator, the sender's first
abbrev pub nonce_words : ℕ → List ℕ
nonce_words number = words_from number 1 0 32

-- the counts of a report
abbrev pub counts_in : Report → Counts
counts_in r =
    record {
      sent = r.sent;
      carried = r.carried;
      lost = r.lost;
      asked = r.asked;
      resent = r.resent;
      released = r.released;
    }

-- The moves of the report are those of the made script, by sealers of its session, and the report tells what came of
-- them. What the receiver released is what was reached, and nothing else.
pub record IsMadeRun (script : Script) (report : Report) : Type 0 where
  pub near : Option SealerState
  pub far : Option SealerState
  pub sender : IsSealerFrom (take 16 (nonce_words script.number)) near
  pub receiver : IsSealerFrom (take 16 (drop 16 (nonce_words script.number))) far
  pub sealed : IsSealerOf made_session near
  pub run : Drilled (made_setup script.links) near far (IsMadeScript script) report.moves.items (counts_in report)
      report.digest
  pub exact : IsExact (made_setup script.links) run.course

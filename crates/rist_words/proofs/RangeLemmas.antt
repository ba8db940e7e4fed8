-- Each reading of a line gives a value in its range.
use Rattle.std.proofs.Common.{◌≡◌, ℕ, List, [], ◌∷◌, Bool, true, false, cond, Option, Some, None, refl, subst, arith, length}
use Rattle.std.specs.Prelude.{option_map, codes, slice_index}
use Rattle.link_channels.specs.declared.profile.Profile.TheVariants.{Main}
use Rattle.std.specs.Str.{bytes_eq}
use Rattle.clap.specs.Words.{Kinds, Row, Text, all_of, first_of}
use Rattle.rist_words.specs.Commands.{faults_of, command_in}
use Rattle.rist_words.specs.Values.{flag_of, is_set, number_at, number_of, name_of}
use Rattle.rist_words.specs.CommandLine.{CommandLine, Replay, Show, Count, Report, Pack, Split, Send, Recv, Fan, Gate, Drill, ReplayCommand, ShowCommand, CountCommand, PackCommand, SplitCommand, SendCommand, RecvCommand, FanCommand, GateCommand, DrillCommand}
use Rattle.rist_words.specs.CommandLine.{delays, spans, restarts, gaps, leads, stores, holds, lingers, turn_counts, incoming_of, session_of, tunnel_session_of, pcap_of, stream_of, receiver_of, serving_of, watching_of}
use Rattle.rist_words.specs.CommandLine.{drill_numbers, drill_counts, drill_links, drill_losses}
use Rattle.rist_words.specs.CommandLine.{replay_of, show_of, count_of, pack_of, split_of, send_of, recv_of, fan_of, gate_of, drill_of, command_line, taken_line, line_of}
use Rattle.rist_words.specs.Links.{gate_links_of, links_of, receiving_role, sending_role, shares_of}
use Rattle.rist_words.specs.Outs.{outs_of}
use Rattle.rist_words.specs.Ranges.{IsInReplay, IsInShow, IsInCount, IsInPack, IsInSplit, IsInSend, IsInRecv, IsInFan, IsInGate, IsInDrill, IsInRange, AreOutputs}
use Rattle.rist_words.proofs.PartRanges.{reads, same_some, number_range, position_range, flag_simple, session_range, incoming_range, tunnel_session_range, udp_range, option_range, stream_range, links_range, share_range, receiver_range, serving_range, watching_range, gate_links_range}
use Rattle.rist_words.proofs.OutLemmas.{AreSplitOuts, split_outs_range}
use Rattle.rist_words.proofs.PartRanges.{default_gap, default_lead, default_store, default_hold, default_linger, default_turns}

replay_range : (rows : List Row) (c : ReplayCommand) → replay_of rows ≡ Some c → IsInReplay c
replay_range rows c e =
    let capture = reads (name_of (first_of (codes "capture") rows)) _ c e in
    let out = reads (name_of (first_of (codes "out") rows)) _ c capture.rest in
    let session = reads (session_of rows) _ c out.rest in
    let delay = reads (number_of delays (first_of (codes "delay") rows)) _ c session.rest in
    let span = reads (number_of spans (first_of (codes "span") rows)) _ c delay.rest in
    let restart = reads (number_of restarts (first_of (codes "restart") rows)) _ c span.rest in
    let pcap = reads (pcap_of session.value.profile rows) _ c restart.rest in
    let d = number_range delays (first_of (codes "delay") rows) delay.value (record { least = omega arith; most = omega arith; multiple = refl }) delay.is in
    let s = number_range spans (first_of (codes "span") rows) span.value (record { least = omega arith; most = omega arith; multiple = refl }) span.is in
    let t = number_range restarts (first_of (codes "restart") rows) restart.value (record { least = omega arith; most = omega arith; multiple = refl }) restart.is in
    subst IsInReplay (same_some _ _ pcap.rest) (record {
      session = session_range rows session.value session.is;
      some_delay = d.least;
      delay = d.most;
      some_span = s.least;
      span = s.most;
      restart = t.most;
      udp = udp_range session.value.profile (is_set (first_of (codes "pcap") rows)) (first_of (codes "udp") rows) pcap.value pcap.is;
    })

show_range : (rows : List Row) (c : ShowCommand) → show_of rows ≡ Some c → IsInShow c
show_range rows c e =
    let capture = reads (name_of (first_of (codes "capture") rows)) _ c e in
    let session = reads (session_of rows) _ c capture.rest in
    let pcap = reads (pcap_of session.value.profile rows) _ c session.rest in
    subst IsInShow (same_some _ _ pcap.rest) (record {
      session = session_range rows session.value session.is;
      udp = udp_range session.value.profile (is_set (first_of (codes "pcap") rows)) (first_of (codes "udp") rows) pcap.value pcap.is;
    })

count_range : (rows : List Row) (c : CountCommand) → count_of rows ≡ Some c → IsInCount c
count_range rows c e =
    let capture = reads (name_of (first_of (codes "capture") rows)) _ c e in
    let session = reads (session_of rows) _ c capture.rest in
    let delay = reads (number_of delays (first_of (codes "delay") rows)) _ c session.rest in
    let span = reads (number_of spans (first_of (codes "span") rows)) _ c delay.rest in
    let restart = reads (number_of restarts (first_of (codes "restart") rows)) _ c span.rest in
    let pcap = reads (pcap_of session.value.profile rows) _ c restart.rest in
    let d = number_range delays (first_of (codes "delay") rows) delay.value (record { least = omega arith; most = omega arith; multiple = refl }) delay.is in
    let s = number_range spans (first_of (codes "span") rows) span.value (record { least = omega arith; most = omega arith; multiple = refl }) span.is in
    let t = number_range restarts (first_of (codes "restart") rows) restart.value (record { least = omega arith; most = omega arith; multiple = refl }) restart.is in
    subst IsInCount (same_some _ _ pcap.rest) (record {
      session = session_range rows session.value session.is;
      some_delay = d.least;
      delay = d.most;
      some_span = s.least;
      span = s.most;
      restart = t.most;
      udp = udp_range session.value.profile (is_set (first_of (codes "pcap") rows)) (first_of (codes "udp") rows) pcap.value pcap.is;
    })

pack_range : (rows : List Row) (c : PackCommand) → pack_of rows ≡ Some c → IsInPack c
pack_range rows c e =
    let source = reads (name_of (first_of (codes "source") rows)) _ c e in
    let capture = reads (name_of (first_of (codes "capture") rows)) _ c source.rest in
    let session = reads (session_of rows) _ c capture.rest in
    let stream = reads (stream_of session.value.profile rows) _ c session.rest in
    let gap = reads (number_of gaps (first_of (codes "gap") rows)) _ c stream.rest in
    let g = number_range gaps (first_of (codes "gap") rows) gap.value default_gap gap.is in
    subst IsInPack (same_some _ _ gap.rest) (record {
      session = session_range rows session.value session.is;
      stream = stream_range session.value.profile rows stream.value stream.is;
      some_gap = g.least;
      gap = g.most;
    })

outputs : (outs : List ℕ × List Text) → AreSplitOuts outs → AreOutputs outs.0 outs.1
outputs outs o = record {
  some = o.some;
  few = o.are.few;
  count = o.are.count;
  even = λ k inside. (o.are.numbers k inside).multiple;
  low = λ k inside. (o.are.numbers k inside).least;
  high = λ k inside. (o.are.numbers k inside).most;
  different = o.different;
  named = o.are.named;
  apart = o.apart;
}

split_range : (rows : List Row) (c : SplitCommand) → split_of rows ≡ Some c → IsInSplit c
split_range rows c e =
    let capture = reads (name_of (first_of (codes "capture") rows)) _ c e in
    let outs = reads (outs_of (first_of (codes "outs") rows)) _ c capture.rest in
    let session = reads (tunnel_session_of (slice_index outs.value.0 0) rows) _ c outs.rest in
    let delay = reads (number_of delays (first_of (codes "delay") rows)) _ c session.rest in
    let span = reads (number_of spans (first_of (codes "span") rows)) _ c delay.rest in
    let restart = reads (number_of restarts (first_of (codes "restart") rows)) _ c span.rest in
    let pcap = reads (pcap_of Main rows) _ c restart.rest in
    let o = split_outs_range (first_of (codes "outs") rows) outs.value outs.is in
    let t = tunnel_session_range (slice_index outs.value.0 0) rows session.value (o.are.numbers 0 (omega (arith, o.some))) session.is in
    let d = option_range delays (first_of (codes "delay") rows) delay.value delay.is (omega arith) (omega arith) refl in
    let s = option_range spans (first_of (codes "span") rows) span.value span.is (omega arith) (omega arith) refl in
    let r = option_range restarts (first_of (codes "restart") rows) restart.value restart.is (omega arith) (omega arith) refl in
    subst IsInSplit (same_some _ _ pcap.rest) (record {
      session = t.0;
      main = t.1;
      outs = outputs outs.value o;
      some_delay = d.least;
      delay = d.most;
      some_span = s.least;
      span = s.most;
      restart = r.most;
      udp = rw t.1 (udp_range Main (is_set (first_of (codes "pcap") rows)) (first_of (codes "udp") rows) pcap.value pcap.is);
    })

send_range : (rows : List Row) (c : SendCommand) → send_of rows ≡ Some c → IsInSend c
send_range rows c e =
    let source = reads (name_of (first_of (codes "source") rows)) _ c e in
    let session = reads (session_of rows) _ c source.rest in
    let listens = reads (flag_of session.value.profile (first_of (codes "listen") rows)) _ c session.rest in
    let links = reads (links_of (sending_role listens.value) session.value.profile (all_of (codes "link") rows)) _ c listens.rest in
    let stream = reads (stream_of session.value.profile rows) _ c links.rest in
    let gap = reads (number_of gaps (first_of (codes "gap") rows)) _ c stream.rest in
    let lead = reads (number_of leads (first_of (codes "lead") rows)) _ c gap.rest in
    let store = reads (number_of stores (first_of (codes "store") rows)) _ c lead.rest in
    let hold = reads (number_of holds (first_of (codes "hold") rows)) _ c store.rest in
    let share = reads (shares_of (length links.value) (first_of (codes "share") rows)) _ c hold.rest in
    let linger = reads (number_of lingers (first_of (codes "linger") rows)) _ c share.rest in
    let turns = reads (number_of turn_counts (first_of (codes "turns") rows)) _ c linger.rest in
    let watching = reads (watching_of rows) _ c turns.rest in
    let l = links_range (sending_role listens.value) session.value.profile (all_of (codes "link") rows) links.value links.is in
    let g = number_range gaps (first_of (codes "gap") rows) gap.value default_gap gap.is in
    let d = number_range leads (first_of (codes "lead") rows) lead.value default_lead lead.is in
    let s = number_range stores (first_of (codes "store") rows) store.value default_store store.is in
    let h = number_range holds (first_of (codes "hold") rows) hold.value default_hold hold.is in
    let r = number_range lingers (first_of (codes "linger") rows) linger.value default_linger linger.is in
    let t = number_range turn_counts (first_of (codes "turns") rows) turns.value default_turns turns.is in
    subst IsInSend (same_some _ _ watching.rest) (record {
      session = session_range rows session.value session.is;
      stream = stream_range session.value.profile rows stream.value stream.is;
      some_link = l.0;
      links = l.1;
      listens = flag_simple session.value.profile (first_of (codes "listen") rows) listens.value listens.is;
      some_gap = g.least;
      gap = g.most;
      lead = d.most;
      some_store = s.least;
      store = s.most;
      some_hold = h.least;
      hold = h.most;
      share = share_range (length links.value) (first_of (codes "share") rows) share.value share.is;
      linger = r.most;
      some_turn = t.least;
      turns = t.most;
      watching = watching_range rows watching.value watching.is;
    })

recv_range : (rows : List Row) (c : RecvCommand) → recv_of rows ≡ Some c → IsInRecv c
recv_range rows c e =
    let out = reads (name_of (first_of (codes "out") rows)) _ c e in
    let session = reads (session_of rows) _ c out.rest in
    let calls = reads (flag_of session.value.profile (first_of (codes "call") rows)) _ c session.rest in
    let links = reads (links_of (receiving_role calls.value) session.value.profile (all_of (codes "link") rows)) _ c calls.rest in
    let receiver = reads (receiver_of rows) _ c links.rest in
    let serving = reads (serving_of rows) _ c receiver.rest in
    let watching = reads (watching_of rows) _ c serving.rest in
    let l = links_range (receiving_role calls.value) session.value.profile (all_of (codes "link") rows) links.value links.is in
    subst IsInRecv (same_some _ _ watching.rest) (record {
      session = session_range rows session.value session.is;
      some_link = l.0;
      links = l.1;
      calls = flag_simple session.value.profile (first_of (codes "call") rows) calls.value calls.is;
      receiver = receiver_range rows receiver.value receiver.is;
      serving = serving_range rows serving.value serving.is;
      watching = watching_range rows watching.value watching.is;
    })

fan_range : (rows : List Row) (c : FanCommand) → fan_of rows ≡ Some c → IsInFan c
fan_range rows c e =
    let outs = reads (outs_of (first_of (codes "outs") rows)) _ c e in
    let session = reads (tunnel_session_of (slice_index outs.value.0 0) rows) _ c outs.rest in
    let links = reads (links_of (receiving_role (is_set (first_of (codes "call") rows))) Main (all_of (codes "link") rows)) _ c session.rest in
    let receiver = reads (receiver_of rows) _ c links.rest in
    let serving = reads (serving_of rows) _ c receiver.rest in
    let watching = reads (watching_of rows) _ c serving.rest in
    let o = split_outs_range (first_of (codes "outs") rows) outs.value outs.is in
    let t = tunnel_session_range (slice_index outs.value.0 0) rows session.value (o.are.numbers 0 (omega (arith, o.some))) session.is in
    let l = links_range (receiving_role (is_set (first_of (codes "call") rows))) Main (all_of (codes "link") rows) links.value links.is in
    subst IsInFan (same_some _ _ watching.rest) (record {
      session = t.0;
      main = t.1;
      outs = outputs outs.value o;
      some_link = l.0;
      links = l.1;
      receiver = receiver_range rows receiver.value receiver.is;
      serving = serving_range rows serving.value serving.is;
      watching = watching_range rows watching.value watching.is;
    })

gate_range : (rows : List Row) (c : GateCommand) → gate_of rows ≡ Some c → IsInGate c
gate_range rows c e =
    let session = reads (session_of rows) _ c e in
    let incoming = reads (incoming_of session.value rows) _ c session.rest in
    let links = reads (gate_links_of incoming.value.profile session.value.profile (all_of (codes "link") rows) (first_of (codes "in") rows)) _ c incoming.rest in
    let receiver = reads (receiver_of rows) _ c links.rest in
    let serving = reads (serving_of rows) _ c receiver.rest in
    let stream = reads (stream_of session.value.profile rows) _ c serving.rest in
    let store = reads (number_of stores (first_of (codes "store") rows)) _ c stream.rest in
    let hold = reads (number_of holds (first_of (codes "hold") rows)) _ c store.rest in
    let share = reads (shares_of (length links.value.1) (first_of (codes "share") rows)) _ c hold.rest in
    let watching = reads (watching_of rows) _ c share.rest in
    let l = gate_links_range incoming.value.profile session.value.profile (all_of (codes "link") rows) (first_of (codes "in") rows) links.value links.is in
    let own = session_range rows session.value session.is in
    let s = number_range stores (first_of (codes "store") rows) store.value default_store store.is in
    let h = number_range holds (first_of (codes "hold") rows) hold.value default_hold hold.is in
    subst IsInGate (same_some _ _ watching.rest) (record {
      incoming = incoming_range session.value rows incoming.value own incoming.is;
      session = own;
      stream = stream_range session.value.profile rows stream.value stream.is;
      some_input = l.some_input;
      some_output = l.some_output;
      links = l.all;
      receiver = receiver_range rows receiver.value receiver.is;
      serving = serving_range rows serving.value serving.is;
      some_store = s.least;
      store = s.most;
      some_hold = h.least;
      hold = h.most;
      share = share_range (length links.value.1) (first_of (codes "share") rows) share.value share.is;
      watching = watching_range rows watching.value watching.is;
    })

drill_range : (rows : List Row) (c : DrillCommand) → drill_of rows ≡ Some c → IsInDrill c
drill_range rows c e =
    let number = reads (number_at drill_numbers (first_of (codes "number") rows)) _ c e in
    let count = reads (number_at drill_counts (first_of (codes "count") rows)) _ c number.rest in
    let links = reads (number_at drill_links (first_of (codes "links") rows)) _ c count.rest in
    let loss = reads (number_at drill_losses (first_of (codes "loss") rows)) _ c links.rest in
    let n = position_range drill_numbers (first_of (codes "number") rows) number.value number.is in
    let k = position_range drill_counts (first_of (codes "count") rows) count.value count.is in
    let l = position_range drill_links (first_of (codes "links") rows) links.value links.is in
    let s = position_range drill_losses (first_of (codes "loss") rows) loss.value loss.is in
    subst IsInDrill (same_some _ _ loss.rest) (record {
      number = omega (arith, n.most);
      count = k.most;
      some_link = l.least;
      links = l.most;
      loss = s.most;
    })

mapped : {A : Type 0} (f : A → CommandLine) (P : A → Type 0) (o : Option A) (c : CommandLine) → ((a : A) → o ≡ Some a → P a) → ((a : A) → P a → IsInRange (f a)) → option_map f o ≡ Some c → IsInRange c
mapped f P None c each to e = cc
mapped f P (Some a) c each to e = subst IsInRange (same_some (f a) c e) (to a (each a refl))

command_range : (name : Text) (rows : List Row) (c : CommandLine) → command_line name rows ≡ Some c → IsInRange c
command_range name rows c e =
    by_name (bytes_eq name (codes "replay")) (bytes_eq name (codes "show")) (bytes_eq name (codes "count")) (bytes_eq name (codes "report")) (bytes_eq name (codes "pack"))
    (bytes_eq name (codes "split")) (bytes_eq name (codes "send")) (bytes_eq name (codes "recv")) (bytes_eq name (codes "fan")) (bytes_eq name (codes "gate")) (bytes_eq name (codes "drill")) e
  where
    by_name : (a b n t d l s r f g w : Bool)
        → cond a (option_map Replay (replay_of rows)) (cond b (option_map Show (show_of rows)) (cond n (option_map Count (count_of rows))
        (cond t (option_map Report (replay_of rows)) (cond d (option_map Pack (pack_of rows)) (cond l (option_map Split (split_of rows))
        (cond s (option_map Send (send_of rows)) (cond r (option_map Recv (recv_of rows)) (cond f (option_map Fan (fan_of rows))
        (cond g (option_map Gate (gate_of rows)) (cond w (option_map Drill (drill_of rows)) None)))))))))) ≡ Some c
        → IsInRange c
    by_name true b n t d l s r f g w p = mapped Replay IsInReplay (replay_of rows) c (replay_range rows) (λ a i. i) p
    by_name false true n t d l s r f g w p = mapped Show IsInShow (show_of rows) c (show_range rows) (λ a i. i) p
    by_name false false true t d l s r f g w p = mapped Count IsInCount (count_of rows) c (count_range rows) (λ a i. i) p
    by_name false false false true d l s r f g w p = mapped Report IsInReplay (replay_of rows) c (replay_range rows) (λ a i. i) p
    by_name false false false false true l s r f g w p = mapped Pack IsInPack (pack_of rows) c (pack_range rows) (λ a i. i) p
    by_name false false false false false true s r f g w p = mapped Split IsInSplit (split_of rows) c (split_range rows) (λ a i. i) p
    by_name false false false false false false true r f g w p = mapped Send IsInSend (send_of rows) c (send_range rows) (λ a i. i) p
    by_name false false false false false false false true f g w p = mapped Recv IsInRecv (recv_of rows) c (recv_range rows) (λ a i. i) p
    by_name false false false false false false false false true g w p = mapped Fan IsInFan (fan_of rows) c (fan_range rows) (λ a i. i) p
    by_name false false false false false false false false false true w p = mapped Gate IsInGate (gate_of rows) c (gate_range rows) (λ a i. i) p
    by_name false false false false false false false false false false true p = mapped Drill IsInDrill (drill_of rows) c (drill_range rows) (λ a i. i) p
    by_name false false false false false false false false false false false p = cc

taken_range : (kinds : Kinds) (named : Option (Text × List Row)) (c : CommandLine) → taken_line kinds named ≡ Some c → IsInRange c
taken_range [] None c e = cc
taken_range [] (Some named) c e = command_range named.0 named.1 c e
taken_range (k ∷ ks) named c e = cc

pub line_range : (words : List Text) (c : CommandLine) → line_of words ≡ Some c → IsInRange c
line_range words c e = taken_range (faults_of words) (command_in words) c e

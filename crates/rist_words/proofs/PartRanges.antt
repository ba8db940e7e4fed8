-- Each reading of a part of a line gives a value in its range.
use Rattle.std.proofs.Common.{◌≡◌, ◌⊎◌, ℕ, ◌+◌, ◌-◌, ◌%◌, ◌^◌, ◌<◌, ◌≤◌, List, [], ◌∷◌, Bool, true, false, cond, Option, Some, None, refl, sym, ap, ◌∙◌, subst, arith, length, take, drop, zero, suc}
use Rattle.std.specs.List.{All}
use Rattle.std.proofs.lemmas.List.{length-drop, length-take-le}
use Rattle.std.proofs.lemmas.List.Elements.{All-nil, All-cons}
use mathlib.Core.Logic.{inl, inr}
use Rattle.std.specs.Prelude.{IfSome, is_some, nat_lt, ◌&&◌, option_map, codes}
use Rattle.std.specs.Str.Parse.{digits_value}
use Rattle.std.proofs.lemmas.Bool.Decides.{nat_tests}
use Rattle.clap.specs.Words.{Row, Text, first_of}
use Rattle.outside_net.specs.declared.link_spec.LinkSpec.{LinkSpec}
use Rattle.outside_net.specs.declared.link_spec.Role.{Role}
use Rattle.outside_net.specs.declared.link_spec.Role.TheVariants.{Receives, Forwards}
use Rattle.gre_tunnel.specs.declared.tunnel.Tunnel.{Tunnel}
use Rattle.gre_tunnel.specs.declared.tunnel.Tunnel.TheVariants.{Own}
use Rattle.link_channels.specs.declared.profile.Profile.{Profile}
use Rattle.link_channels.specs.declared.profile.Profile.TheVariants.{Simple, Main}
use Rattle.rist_words.specs.declared.values.Numbers.{Numbers}
use Rattle.rist_words.specs.Commands.{SessionNames, incoming_names, session_names}
use Rattle.rist_words.specs.Values.{is_numeral, is_among, nack_of, number_at, number_in, number_of, ◌>>=◌, profile_of, phrase_of, is_set, flag_of, tunnel_of, name_if, number_if}
use Rattle.rist_words.specs.CommandLine.{Session, Stream, Receiver, Serving, Watching, key_bits, delays, spans, restarts, flows, firsts, gaps, leads, stores, holds, lingers, turn_counts}
use Rattle.rist_words.specs.CommandLine.{reorders, retry_times, retry_counts, own_ssrcs, idle_times, kept_counts, stats_times, are_unset, incoming_of, session_named, session_of, tunnel_session_of, pcap_with, stream_of, receiver_of, serving_of, watching_of, watching_with}
use Rattle.rist_words.specs.Links.{colon, each_link, gate_links_of, input_counts, inputs_of, link_of, link_ports, link_texts, link_weights, links_of, shares_of, split_at, weights_in}
use Rattle.rist_words.specs.Outs.{ports}
use Rattle.rist_words.specs.Ranges.{IsInSession, IsUdpPort, IsInStream, IsInReceiver, IsInServing, IsInWatching, IsWeight}

-- a value that was read, and the rest of the reading
pub record Reads {A B : Type 0} (x : Option A) (f : A → Option B) (b : B) : Type 0 where
  pub value : A
  pub is : x ≡ Some value
  pub rest : f value ≡ Some b

pub reads : {A B : Type 0} (x : Option A) (f : A → Option B) (b : B) → (x >>= f) ≡ Some b → Reads x f b
reads None f b e = cc
reads (Some a) f b e = record { value = a; is = refl; rest = e }

pub same_some : {A : Type 0} (x y : A) → Some x ≡ Some y → x ≡ y
same_some x y e = cc

-- the number is one that the option takes
pub record IsAmong (numbers : Numbers) (n : ℕ) : Type 0 where
  pub least : numbers.least ≤ n
  pub most : n ≤ numbers.most
  pub multiple : n % numbers.multiple_of ≡ 0

pub taken : (a : Bool) (v n : ℕ) → cond a (Some v) None ≡ Some n → (a ≡ true) × (v ≡ n)
taken true v n e = (refl, same_some v n e)
taken false v n e = cc

pub among : (numbers : Numbers) (n : ℕ) → is_among numbers n ≡ true → IsAmong numbers n
among numbers n e = record { least = grind (arith, nat_tests); most = grind (arith, nat_tests); multiple = grind (arith, nat_tests) }

pub both_true : (a b : Bool) → (a && b) ≡ true → b ≡ true
both_true true b e = e
both_true false b e = cc

pub text_range : (numbers : Numbers) (text : Text) (n : ℕ) → number_in numbers text ≡ Some n → IsAmong numbers n
text_range numbers text n e =
    let t = taken (is_numeral text && is_among numbers (digits_value 10 text)) (digits_value 10 text) n e in
    subst (IsAmong numbers) t.1 (among numbers (digits_value 10 text) (both_true (is_numeral text) (is_among numbers (digits_value 10 text)) t.0))

pub number_range : (numbers : Numbers) (o : Option Text) (n : ℕ) → IsAmong numbers numbers.default → number_of numbers o ≡ Some n → IsAmong numbers n
number_range numbers None n default e = subst (IsAmong numbers) (same_some numbers.default n e) default
number_range numbers (Some text) n default e = text_range numbers text n e

pub position_range : (numbers : Numbers) (o : Option Text) (n : ℕ) → number_at numbers o ≡ Some n → IsAmong numbers n
position_range numbers None n e = cc
position_range numbers (Some text) n e = text_range numbers text n e

pub two_bits : (n : ℕ) → IsAmong key_bits n → (n ≡ 128) ⊎ (n ≡ 256)
two_bits n a = let l = a.least in let m = a.most in let k = a.multiple in by_half (nat_lt n 256) refl
  where
    by_half : (b : Bool) → nat_lt n 256 ≡ b → (n ≡ 128) ⊎ (n ≡ 256)
    by_half true e = let l = a.least in let k = a.multiple in inl (grind (arith, nat_tests))
    by_half false e = let m = a.most in inr (grind (arith, nat_tests))

pub phrase_simple : (profile : Profile) (o : Option Text) (pass : Option Text) → phrase_of profile o ≡ Some pass → profile ≡ Simple → pass ≡ None
phrase_simple profile None pass e is = sym (same e)
  where
    same : Some None ≡ Some pass → None ≡ pass
    same p = cc
phrase_simple Simple (Some text) pass e is = cc
phrase_simple Main (Some text) pass e is = cc

pub phrase_length : (profile : Profile) (o : Option Text) (pass : Option Text) → phrase_of profile o ≡ Some pass → IfSome pass (λ p. (1 ≤ length p) × (length p ≤ 128))
phrase_length profile None None e = tt
phrase_length profile None (Some p) e = cc
phrase_length Simple (Some text) pass e = cc
phrase_length Main (Some text) None e = tt
phrase_length Main (Some text) (Some p) e = by_fit (nat_lt 0 (length text) && nat_lt (length text) 129) refl e
  where
    by_fit : (b : Bool) → (nat_lt 0 (length text) && nat_lt (length text) 129) ≡ b → cond b (Some (Some text)) None ≡ Some (Some p) → (1 ≤ length p) × (length p ≤ 128)
    by_fit true fit e = let same : text ≡ p = cc in subst (λ q. (1 ≤ length q) × (length q ≤ 128)) same (grind (arith, nat_tests), grind (arith, nat_tests))
    by_fit false fit e = cc

pub flag_simple : (profile : Profile) (o : Option Text) (set : Bool) → flag_of profile o ≡ Some set → profile ≡ Simple → set ≡ false
flag_simple Main o set e is = cc
flag_simple Simple o set e is = by_flag (is_set o) e
  where
    by_flag : (b : Bool) → cond b None (Some false) ≡ Some set → set ≡ false
    by_flag true p = cc
    by_flag false p = cc

pub tunnel_simple : (profile : Profile) (o : Option Text) (tunnel : Tunnel) → tunnel_of profile o ≡ Some tunnel → profile ≡ Simple → tunnel ≡ Own
tunnel_simple profile None tunnel e is = sym (same_some Own tunnel e)
tunnel_simple Simple (Some text) tunnel e is = cc
tunnel_simple Main (Some text) tunnel e is = cc

pub named_range : (names : SessionNames) (asks : Bool) (rows : List Row) (s : Session) → session_named names asks rows ≡ Some s → IsInSession s
named_range names asks rows s e =
    let profile = reads (profile_of (first_of names.profile rows)) _ s e in
    let port = reads (number_of ports (first_of names.port rows)) _ s profile.rest in
    let pass = reads (phrase_of profile.value (first_of names.pass rows)) _ s port.rest in
    let bits = reads (number_of key_bits (first_of names.bits rows)) _ s pass.rest in
    let full = reads (flag_of profile.value (first_of names.full rows)) _ s bits.rest in
    let tunnel = reads (tunnel_of profile.value (first_of names.tunnel rows)) _ s full.rest in
    let p = number_range ports (first_of names.port rows) port.value (record { least = omega arith; most = omega arith; multiple = refl }) port.is in
    let b = number_range key_bits (first_of names.bits rows) bits.value (record { least = omega arith; most = omega arith; multiple = refl }) bits.is in
    subst IsInSession (same_some _ _ tunnel.rest) (record {
      even = p.multiple;
      low = p.least;
      high = p.most;
      bits = two_bits bits.value b;
      pass = phrase_length profile.value (first_of names.pass rows) pass.value pass.is;
      simple = phrase_simple profile.value (first_of names.pass rows) pass.value pass.is;
      full = flag_simple profile.value (first_of names.full rows) full.value full.is;
      tunnel = tunnel_simple profile.value (first_of names.tunnel rows) tunnel.value tunnel.is;
    })

pub session_range : (rows : List Row) (s : Session) → session_of rows ≡ Some s → IsInSession s
session_range rows s e = named_range session_names (is_set (first_of (codes "echo") rows)) rows s e

-- a session of the Main Profile at a port that can be one
pub tunnel_session_range : (port : ℕ) (rows : List Row) (s : Session) → IsAmong ports port → tunnel_session_of port rows ≡ Some s
    → IsInSession s × (s.profile ≡ Main)
tunnel_session_range port rows s p e =
    let pass = reads (phrase_of Main (first_of session_names.pass rows)) _ s e in
    let bits = reads (number_of key_bits (first_of session_names.bits rows)) _ s pass.rest in
    let tunnel = reads (tunnel_of Main (first_of session_names.tunnel rows)) _ s bits.rest in
    let b = number_range key_bits (first_of session_names.bits rows) bits.value (record { least = omega arith; most = omega arith; multiple = refl }) bits.is in
    subst (λ own. IsInSession own × (own.profile ≡ Main)) (same_some _ _ tunnel.rest) (
      record {
        even = p.multiple;
        low = p.least;
        high = p.most;
        bits = two_bits bits.value b;
        pass = phrase_length Main (first_of session_names.pass rows) pass.value pass.is;
        simple = λ is. cc;
        full = λ is. cc;
        tunnel = λ is. cc;
      },
      refl,
    )

-- a session of its own, or that of the other links
pub incoming_range : (session : Session) (rows : List Row) (s : Session) → IsInSession session → incoming_of session rows ≡ Some s → IsInSession s
incoming_range session rows s range e = by_profile (is_some (first_of incoming_names.profile rows)) (are_unset incoming_names rows) e
  where
    by_profile : (given unset : Bool) → cond given (session_named incoming_names false rows) (cond unset (Some session) None) ≡ Some s → IsInSession s
    by_profile true unset p = named_range incoming_names false rows s p
    by_profile false true p = subst IsInSession (same_some session s p) range
    by_profile false false p = cc

pub port_among : (profile : Profile) (n : ℕ) → IsAmong (link_ports profile) n → IsUdpPort profile n
port_among Main n a = record { some = a.least; most = a.most; even = λ is. cc }
port_among Simple n a = record { some = omega (arith, a.least); most = omega (arith, a.most); even = λ is. a.multiple }

pub udp_range : (profile : Profile) (set : Bool) (text : Option Text) (pcap : Option ℕ)
    → pcap_with profile set text ≡ Some pcap → IfSome pcap (λ port. IsUdpPort profile port)
udp_range profile false None pcap e = subst (λ p. IfSome p (λ port. IsUdpPort profile port)) (same_some None pcap e) tt
udp_range profile false (Some text) pcap e = cc
udp_range profile true None pcap e = cc
udp_range profile true (Some text) pcap e = by_port (number_in (link_ports profile) text) refl e
  where
    by_port : (o : Option ℕ) → number_in (link_ports profile) text ≡ o → option_map (λ port. Some port) o ≡ Some pcap
        → IfSome pcap (λ port. IsUdpPort profile port)
    by_port None is p = cc
    by_port (Some n) is p =
        subst (λ q. IfSome q (λ port. IsUdpPort profile port)) (same_some (Some n) pcap p) (port_among profile n (text_range (link_ports profile) text n is))

pub first_low : (wide : Bool) (n : ℕ) → IsAmong (firsts wide) n → wide ≡ false → n < 65536
first_low true n a is = cc
first_low false n a is = omega (arith, a.most)

pub first_high : (wide : Bool) (n : ℕ) → IsAmong (firsts wide) n → n < 2 ^ 32
first_high true n a = omega (arith, a.most)
first_high false n a = omega (arith, a.most)

pub default_first : (wide : Bool) → IsAmong (firsts wide) (firsts wide).default
default_first true = record { least = omega arith; most = omega arith; multiple = refl }
default_first false = record { least = omega arith; most = omega arith; multiple = refl }

-- each default is among the option's numbers
pub default_gap : IsAmong gaps gaps.default
default_gap = record { least = omega arith; most = omega arith; multiple = refl }

pub default_lead : IsAmong leads leads.default
default_lead = record { least = omega arith; most = omega arith; multiple = refl }

pub default_store : IsAmong stores stores.default
default_store = record { least = omega arith; most = omega arith; multiple = refl }

pub default_hold : IsAmong holds holds.default
default_hold = record { least = omega arith; most = omega arith; multiple = refl }

pub default_linger : IsAmong lingers lingers.default
default_linger = record { least = omega arith; most = omega arith; multiple = refl }

pub default_turns : IsAmong turn_counts turn_counts.default
default_turns = record { least = omega arith; most = omega arith; multiple = refl }

pub stream_range : (profile : Profile) (rows : List Row) (s : Stream) → stream_of profile rows ≡ Some s → IsInStream profile s
stream_range profile rows s e =
    let nulls = reads (flag_of profile (first_of (codes "nulls") rows)) _ s e in
    let wide = reads (flag_of profile (first_of (codes "wide") rows)) _ s nulls.rest in
    let flow = reads (number_of flows (first_of (codes "flow") rows)) _ s wide.rest in
    let first = reads (number_of (firsts wide.value) (first_of (codes "first") rows)) _ s flow.rest in
    let f = number_range flows (first_of (codes "flow") rows) flow.value (record { least = omega arith; most = omega arith; multiple = refl }) flow.is in
    let n = number_range (firsts wide.value) (first_of (codes "first") rows) first.value (default_first wide.value) first.is in
    subst (IsInStream profile) (same_some _ _ first.rest) (record {
      even = f.multiple;
      flow = omega (arith, f.most);
      narrow = first_low wide.value first.value n;
      first = first_high wide.value first.value n;
      nulls = flag_simple profile (first_of (codes "nulls") rows) nulls.value nulls.is;
      wide = flag_simple profile (first_of (codes "wide") rows) wide.value wide.is;
    })

-- as many links as texts
pub each_count : (role : Role) (profile : Profile) (texts : List Text) (links : List LinkSpec) → each_link role profile texts ≡ Some links → length links ≡ length texts
each_count role profile [] links e = sym (ap length (same_some [] links e))
each_count role profile (text ∷ texts) links e =
    let link = reads (link_of role profile text) _ links e in
    let more = reads (each_link role profile texts) _ links link.rest in
    sym (ap length (same_some _ _ more.rest)) ∙ ap suc (each_count role profile texts more.value more.is)

pub texts_range : (given : Option (List Text)) (texts : List Text) → link_texts given ≡ Some texts → (1 ≤ length texts) × (length texts ≤ 16)
texts_range None texts e = cc
texts_range (Some all) texts e = by_fit (nat_lt 0 (length all) && nat_lt (length all) 17) refl e
  where
    by_fit : (b : Bool) → (nat_lt 0 (length all) && nat_lt (length all) 17) ≡ b → cond b (Some all) None ≡ Some texts → (1 ≤ length texts) × (length texts ≤ 16)
    by_fit true fit p = subst (λ ts. (1 ≤ length ts) × (length ts ≤ 16)) (same_some all texts p) (grind (arith, nat_tests), grind (arith, nat_tests))
    by_fit false fit p = cc

pub links_range : (role : Role) (profile : Profile) (given : Option (List Text)) (links : List LinkSpec) → links_of role profile given ≡ Some links
    → (1 ≤ length links) × (length links ≤ 16)
links_range role profile given links e =
    let texts = reads (link_texts given) _ links e in
    let r = texts_range given texts.value texts.is in
    let count = each_count role profile texts.value links texts.rest in
    (omega (arith, count, r.0), omega (arith, count, r.1))

pub weight_range : (text : Text) (weight : ℕ) → number_in link_weights text ≡ Some weight → IsWeight weight
weight_range text weight e =
    let t = taken (is_numeral text && is_among link_weights (digits_value 10 text)) (digits_value 10 text) weight e in
    let a = subst (IsAmong link_weights) t.1 (among link_weights (digits_value 10 text) (both_true (is_numeral text) (is_among link_weights (digits_value 10 text)) t.0)) in
    record { some = a.least; most = a.most }

-- a weight alone, and one before others
pub one_weight : (weight : ℕ) → IsWeight weight → All IsWeight (weight ∷ [])
one_weight weight is = All-cons IsWeight weight [] is (All-nil IsWeight)

pub weights_range : (links : ℕ) (text : Text) (weights : List ℕ) → weights_in links text ≡ Some weights → (length weights ≡ links) × All IsWeight weights
weights_range zero text weights e = cc
weights_range (suc zero) text weights e = by_weight (number_in link_weights text) refl e
  where
    by_weight : (o : Option ℕ) → number_in link_weights text ≡ o → option_map (λ weight. weight ∷ []) o ≡ Some weights → (length weights ≡ 1) × All IsWeight weights
    by_weight None is p = cc
    by_weight (Some weight) is p = subst (λ ws. (length ws ≡ 1) × All IsWeight ws) (same_some _ _ p) (refl, one_weight weight (weight_range text weight is))
weights_range (suc (suc links)) text weights e =
    let parts = reads (split_at colon text) _ weights e in
    let weight = reads (number_in link_weights parts.value.0) _ weights parts.rest in
    let more = reads (weights_in (suc links) parts.value.1) _ weights weight.rest in
    let rest = weights_range (suc links) parts.value.1 more.value more.is in
    subst (λ ws. (length ws ≡ suc (suc links)) × All IsWeight ws) (same_some _ _ more.rest)
    (ap suc rest.0, All-cons IsWeight weight.value more.value (weight_range parts.value.0 weight.value weight.is) rest.1)

pub share_range : (links : ℕ) (text : Option Text) (share : Option (List ℕ)) → shares_of links text ≡ Some share
    → IfSome share (λ weights. (length weights ≡ links) × All IsWeight weights)
share_range links None None e = tt
share_range links None (Some weights) e = cc
share_range links (Some text) share e = by_weights (weights_in links text) refl e
  where
    by_weights : (o : Option (List ℕ)) → weights_in links text ≡ o → option_map Some o ≡ Some share → IfSome share (λ weights. (length weights ≡ links) × All IsWeight weights)
    by_weights None is p = cc
    by_weights (Some weights) is p = subst (λ s. IfSome s (λ ws. (length ws ≡ links) × All IsWeight ws)) (same_some _ _ p) (weights_range links text weights is)

-- a number of an option whose default it takes
pub option_range : (numbers : Numbers) (o : Option Text) (n : ℕ) → number_of numbers o ≡ Some n
    → numbers.least ≤ numbers.default → numbers.default ≤ numbers.most → numbers.default % numbers.multiple_of ≡ 0 → IsAmong numbers n
option_range numbers o n e least most multiple = number_range numbers o n (record { least = least; most = most; multiple = multiple }) e

pub receiver_range : (rows : List Row) (r : Receiver) → receiver_of rows ≡ Some r → IsInReceiver r
receiver_range rows r e =
    let delay = reads (number_of delays (first_of (codes "delay") rows)) _ r e in
    let span = reads (number_of spans (first_of (codes "span") rows)) _ r delay.rest in
    let restart = reads (number_of restarts (first_of (codes "restart") rows)) _ r span.rest in
    let reorder = reads (number_of reorders (first_of (codes "reorder") rows)) _ r restart.rest in
    let least = reads (number_of retry_times (first_of (codes "least") rows)) _ r reorder.rest in
    let tries = reads (number_of retry_counts (first_of (codes "tries") rows)) _ r least.rest in
    let nack = reads (nack_of (first_of (codes "nack") rows)) _ r tries.rest in
    let own = reads (number_of own_ssrcs (first_of (codes "own") rows)) _ r nack.rest in
    let d = option_range delays (first_of (codes "delay") rows) delay.value delay.is (omega arith) (omega arith) refl in
    let s = option_range spans (first_of (codes "span") rows) span.value span.is (omega arith) (omega arith) refl in
    let q = option_range restarts (first_of (codes "restart") rows) restart.value restart.is (omega arith) (omega arith) refl in
    let o = option_range reorders (first_of (codes "reorder") rows) reorder.value reorder.is (omega arith) (omega arith) refl in
    let l = option_range retry_times (first_of (codes "least") rows) least.value least.is (omega arith) (omega arith) refl in
    let t = option_range retry_counts (first_of (codes "tries") rows) tries.value tries.is (omega arith) (omega arith) refl in
    let w = option_range own_ssrcs (first_of (codes "own") rows) own.value own.is (omega arith) (omega arith) refl in
    subst IsInReceiver (same_some _ _ own.rest) (record {
      some_delay = d.least;
      delay = d.most;
      some_span = s.least;
      span = s.most;
      restart = q.most;
      reorder = o.most;
      some_least = l.least;
      least = l.most;
      tries = t.most;
      own = omega (arith, w.most);
    })

pub serving_range : (rows : List Row) (s : Serving) → serving_of rows ≡ Some s → IsInServing s
serving_range rows s e =
    let turns = reads (number_of turn_counts (first_of (codes "turns") rows)) _ s e in
    let idle = reads (number_of idle_times (first_of (codes "idle") rows)) _ s turns.rest in
    let keep = reads (number_of kept_counts (first_of (codes "keep") rows)) _ s idle.rest in
    let t = option_range turn_counts (first_of (codes "turns") rows) turns.value turns.is (omega arith) (omega arith) refl in
    let i = option_range idle_times (first_of (codes "idle") rows) idle.value idle.is (omega arith) (omega arith) refl in
    let k = option_range kept_counts (first_of (codes "keep") rows) keep.value keep.is (omega arith) (omega arith) refl in
    subst IsInServing (same_some _ _ keep.rest) (record { some_turn = t.least; turns = t.most; idle = i.most; keep = k.most })

-- of two links or more some receive, and some are left
pub inputs_range : (links : ℕ) (given : Option Text) (n : ℕ) → inputs_of links given ≡ Some n → (1 ≤ n) × (n < links)
inputs_range links given n e = by_two (nat_lt links 2) refl e
  where
    by_two : (b : Bool) → nat_lt links 2 ≡ b → cond b None (number_of (input_counts links) given) ≡ Some n → (1 ≤ n) × (n < links)
    by_two true few p = cc
    by_two false few p =
        let two : 2 ≤ links = grind (arith, nat_tests) in
        let a = option_range (input_counts links) given n p (omega arith) (omega (arith, two)) refl in
        (a.least, omega (arith, a.most, two))

-- a link or more that receives, one or more that sends, and sixteen in all at most
pub record AreGateLinks (links : List LinkSpec × List LinkSpec) : Type 0 where
  pub some_input : 1 ≤ length links.0
  pub some_output : 1 ≤ length links.1
  pub all : length links.0 + length links.1 ≤ 16

pub gate_links_range : (incoming onward : Profile) (given : Option (List Text)) (count : Option Text) (links : List LinkSpec × List LinkSpec)
    → gate_links_of incoming onward given count ≡ Some links → AreGateLinks links
gate_links_range incoming onward given count links e =
    let texts = reads (link_texts given) _ links e in
    let inputs = reads (inputs_of (length texts.value) count) _ links texts.rest in
    let received = reads (each_link Receives incoming (take inputs.value texts.value)) _ links inputs.rest in
    let sent = reads (each_link Forwards onward (drop inputs.value texts.value)) _ links received.rest in
    let r = texts_range given texts.value texts.is in
    let i = inputs_range (length texts.value) count inputs.value inputs.is in
    let first = each_count Receives incoming (take inputs.value texts.value) received.value received.is in
    let rest = each_count Forwards onward (drop inputs.value texts.value) sent.value sent.is in
    let front : length (take inputs.value texts.value) ≡ inputs.value = length-take-le inputs.value texts.value (omega (arith, i.1)) in
    let back : length (drop inputs.value texts.value) ≡ length texts.value - inputs.value = length-drop inputs.value texts.value in
    subst AreGateLinks (same_some _ _ sent.rest) (record {
      some_input = omega (arith, first, front, i.0);
      some_output = omega (arith, rest, back, i.1);
      all = omega (arith, first, rest, front, back, i.1, r.1);
    })

-- a number that may be left out
number_if_range : (numbers : Numbers) (o : Option Text) (r : Option ℕ) → number_if numbers o ≡ Some r → IfSome r (λ n. IsAmong numbers n)
number_if_range numbers None r e = subst (λ q. IfSome q (λ n. IsAmong numbers n)) (same_some None r e) tt
number_if_range numbers (Some text) r e = by_number (number_in numbers text) refl e
  where
    by_number : (o : Option ℕ) → number_in numbers text ≡ o → option_map Some o ≡ Some r → IfSome r (λ n. IsAmong numbers n)
    by_number None is p = cc
    by_number (Some n) is p = subst (λ q. IfSome q (λ n. IsAmong numbers n)) (same_some (Some n) r p) (text_range numbers text n is)

watching_is : (capture : Option Text) (stats : Option ℕ) (file : Option Text) (w : Watching) → watching_with capture stats file ≡ Some w → stats ≡ w.stats
watching_is capture None None w e = cc
watching_is capture None (Some file) w e = cc
watching_is capture (Some n) None w e = cc
watching_is capture (Some n) (Some file) w e = cc

stats_range : (r : Option ℕ) (w : Watching) → r ≡ w.stats → IfSome r (λ n. IsAmong stats_times n) → IsInWatching w
stats_range None w e i = record { some_stats = subst (λ q. IfSome q (λ n. stats_times.least ≤ n)) e tt; stats = subst (λ q. IfSome q (λ n. n ≤ stats_times.most)) e tt }
stats_range (Some n) w e i = record { some_stats = subst (λ q. IfSome q (λ n. stats_times.least ≤ n)) e i.least; stats = subst (λ q. IfSome q (λ n. n ≤ stats_times.most)) e i.most }

pub watching_range : (rows : List Row) (w : Watching) → watching_of rows ≡ Some w → IsInWatching w
watching_range rows w e =
    let capture = reads (name_if (first_of (codes "record") rows)) _ w e in
    let stats = reads (number_if stats_times (first_of (codes "stats") rows)) _ w capture.rest in
    let file = reads (name_if (first_of (codes "stats-file") rows)) _ w stats.rest in
    stats_range stats.value w (watching_is capture.value stats.value file.value w file.rest) (number_if_range stats_times (first_of (codes "stats") rows) stats.value stats.is)

-- A put whose words are known by another name, and echoes that are written.
use Rattle.std.proofs.Common.{◌≡◌, ℕ, ◌^◌, ◌<◌, true, false, List, [], length, Some, Result, refl, subst, arith}
use Rattle.std.specs.Prelude.{OnOk, ⊤, nat_lt}
use Rattle.std.proofs.lemmas.Bool.{le-ltb}
use Rattle.std.proofs.lemmas.Nat.{from_be_bytes-to_be_bytes_4, from_be_bytes-to_be_bytes_8}
use Rattle.rist_rtt.specs.Echo.{EchoOf, stamp_in, delay_in, echo_in, echo_words, copied, request, response}
use Rattle.rtcp_compound.specs.Compound.{application}
use Rattle.rtcp_compound.specs.Name.{rist_name}
use Rattle.rtcp_compound.specs.Writing.{Written, with_packet, app_octets}

pub words_as : {E : Type 0} (r : Result ⊤ E) (new old : Written) (subtype ssrc : ℕ) (words words' : List ℕ) → words ≡ words'
    → OnOk r (new ≡ with_packet old (application subtype ssrc rist_name words) (app_octets subtype ssrc rist_name words))
    → OnOk r (new ≡ with_packet old (application subtype ssrc rist_name words') (app_octets subtype ssrc rist_name words'))
words_as r new old subtype ssrc words words' e h =
    subst (λ (x : List ℕ). OnOk r (new ≡ with_packet old (application subtype ssrc rist_name x) (app_octets subtype ssrc rist_name x))) e h

-- a body that is written is long enough, and says what it was given
long_enough : (stamp delay : ℕ) (more : List ℕ) → nat_lt (length (echo_words stamp delay more)) 12 ≡ false
long_enough stamp delay more = le-ltb (length (echo_words stamp delay more)) 12 (omega arith)

stamp_again : (stamp delay : ℕ) (more : List ℕ) → stamp < 2 ^ 64 → stamp_in (echo_words stamp delay more) ≡ stamp
unfolding stamp_in
stamp_again stamp delay more lt = from_be_bytes-to_be_bytes_8 stamp lt

delay_again : (stamp delay : ℕ) (more : List ℕ) → delay < 2 ^ 32 → delay_in (echo_words stamp delay more) ≡ delay
unfolding delay_in
delay_again stamp delay more lt = from_be_bytes-to_be_bytes_4 delay lt

pub request_written : (media stamp : ℕ) → stamp < 2 ^ 64 → echo_in (request media stamp) ≡ Some (record { answer = false; flow = media; stamp = stamp; delay = 0; more = [] })
request_written media stamp lt = rw (long_enough stamp 0 [], stamp_again stamp 0 [] lt, delay_again stamp 0 [] (omega arith)) refl

pub response_written : (echo : EchoOf) (delay : ℕ) → echo.stamp < 2 ^ 64 → delay < 2 ^ 32
    → echo_in (response echo delay) ≡ Some (record { answer = true; flow = echo.flow; stamp = echo.stamp; delay = delay; more = copied echo.more })
response_written echo delay ls ld = rw (long_enough echo.stamp delay (copied echo.more), stamp_again echo.stamp delay (copied echo.more) ls, delay_again echo.stamp delay (copied echo.more) ld) refl

-- Words that ask for help or the version are no line of a command.
use Rattle.std.proofs.Common.{arith, ◌≡◌, [], ◌∷◌, Bool, true, false, cond, List, Some, None, codes, refl, subst, sym}
use Rattle.std.specs.Prelude.{Option, option_map}
use Rattle.std.specs.Str.{bytes_eq}
use Rattle.std.proofs.lemmas.Slice.Eq.{bytes_eq-Decides}
use Rattle.clap.proofs.OnLiterals.{clap_on_literals}
use Rattle.clap.specs.Words.{Text}
use Rattle.rist_words.specs.Commands.{command_in, faults_of}
use Rattle.rist_words.specs.CommandLine.{line_of}
use Rattle.rist_help.specs.Asks.{ask_of, name_of_topic, topic_of}
use Rattle.rist_help.specs.declared.asking.Ask.{Ask}
use Rattle.rist_help.specs.declared.asking.Ask.TheVariants.{Help, HelpOf, Version}
use Rattle.rist_help.specs.declared.asking.Topic.{Topic}
use Rattle.rist_help.specs.declared.asking.Topic.TheVariants.{Replay, Show, Count, Report, Pack, Split, Send, Recv, Fan, Gate, Drill}

text_is : (a b : Text) → bytes_eq a b ≡ true → a ≡ b
text_is a b e = grind (arith, bytes_eq-Decides a b, e)

help_line : (program : Text) → line_of (program ∷ codes "--help" ∷ []) ≡ None
unfolding clap_on_literals faults_of command_in
help_line program = refl

version_line : (program : Text) → line_of (program ∷ codes "--version" ∷ []) ≡ None
unfolding clap_on_literals faults_of command_in
version_line program = refl

help_of_line : (program : Text) (topic : Topic) → line_of (program ∷ name_of_topic topic ∷ codes "--help" ∷ []) ≡ None
unfolding clap_on_literals faults_of command_in
help_of_line program Replay = refl
help_of_line program Show = refl
help_of_line program Count = refl
help_of_line program Report = refl
help_of_line program Pack = refl
help_of_line program Split = refl
help_of_line program Send = refl
help_of_line program Recv = refl
help_of_line program Fan = refl
help_of_line program Gate = refl
help_of_line program Drill = refl

same_topic : (t u : Topic) → Some t ≡ Some u → t ≡ u
same_topic t u e = cc

-- a name is that of its command
named_topic : (name : Text) (topic : Topic) → topic_of name ≡ Some topic → name ≡ name_of_topic topic
named_topic name topic e =
    by_name (bytes_eq name (codes "replay")) (bytes_eq name (codes "show")) (bytes_eq name (codes "count")) (bytes_eq name (codes "report")) (bytes_eq name (codes "pack")) (bytes_eq name (codes "split")) (bytes_eq name (codes "send")) (bytes_eq name (codes "recv")) (bytes_eq name (codes "fan")) (bytes_eq name (codes "gate")) (bytes_eq name (codes "drill"))
    refl refl refl refl refl refl refl refl refl refl refl e
  where
    by_name : (a b n t d l s r f g w : Bool)
        → bytes_eq name (codes "replay") ≡ a → bytes_eq name (codes "show") ≡ b → bytes_eq name (codes "count") ≡ n → bytes_eq name (codes "report") ≡ t → bytes_eq name (codes "pack") ≡ d → bytes_eq name (codes "split") ≡ l → bytes_eq name (codes "send") ≡ s → bytes_eq name (codes "recv") ≡ r → bytes_eq name (codes "fan") ≡ f → bytes_eq name (codes "gate") ≡ g → bytes_eq name (codes "drill") ≡ w
        → cond a (Some Replay) (cond b (Some Show) (cond n (Some Count) (cond t (Some Report) (cond d (Some Pack) (cond l (Some Split) (cond s (Some Send) (cond r (Some Recv) (cond f (Some Fan) (cond g (Some Gate) (cond w (Some Drill) None)))))))))) ≡ Some topic
        → name ≡ name_of_topic topic
    by_name true b n t d l s r f g w ea eb en et ed el es er ef eg ew e = subst (λ t. name ≡ name_of_topic t) (same_topic Replay topic e) (text_is _ _ ea)
    by_name false true n t d l s r f g w ea eb en et ed el es er ef eg ew e = subst (λ t. name ≡ name_of_topic t) (same_topic Show topic e) (text_is _ _ eb)
    by_name false false true t d l s r f g w ea eb en et ed el es er ef eg ew e = subst (λ t. name ≡ name_of_topic t) (same_topic Count topic e) (text_is _ _ en)
    by_name false false false true d l s r f g w ea eb en et ed el es er ef eg ew e = subst (λ t. name ≡ name_of_topic t) (same_topic Report topic e) (text_is _ _ et)
    by_name false false false false true l s r f g w ea eb en et ed el es er ef eg ew e = subst (λ t. name ≡ name_of_topic t) (same_topic Pack topic e) (text_is _ _ ed)
    by_name false false false false false true s r f g w ea eb en et ed el es er ef eg ew e = subst (λ t. name ≡ name_of_topic t) (same_topic Split topic e) (text_is _ _ el)
    by_name false false false false false false true r f g w ea eb en et ed el es er ef eg ew e = subst (λ t. name ≡ name_of_topic t) (same_topic Send topic e) (text_is _ _ es)
    by_name false false false false false false false true f g w ea eb en et ed el es er ef eg ew e = subst (λ t. name ≡ name_of_topic t) (same_topic Recv topic e) (text_is _ _ er)
    by_name false false false false false false false false true g w ea eb en et ed el es er ef eg ew e = subst (λ t. name ≡ name_of_topic t) (same_topic Fan topic e) (text_is _ _ ef)
    by_name false false false false false false false false false true w ea eb en et ed el es er ef eg ew e = subst (λ t. name ≡ name_of_topic t) (same_topic Gate topic e) (text_is _ _ eg)
    by_name false false false false false false false false false false true ea eb en et ed el es er ef eg ew e = subst (λ t. name ≡ name_of_topic t) (same_topic Drill topic e) (text_is _ _ ew)
    by_name false false false false false false false false false false false ea eb en et ed el es er ef eg ew e = cc

of_command : (program command : Text) (named : Option Topic) (asked : Ask) → topic_of command ≡ named → option_map HelpOf named ≡ Some asked
    → line_of (program ∷ command ∷ codes "--help" ∷ []) ≡ None
of_command program command None asked is e = cc
of_command program command (Some topic) asked is e =
    subst (λ c. line_of (program ∷ c ∷ codes "--help" ∷ []) ≡ None) (sym (named_topic command topic is)) (help_of_line program topic)

by_word : (program word : Text) (h v : Bool) (asked : Ask) → bytes_eq word (codes "--help") ≡ h → bytes_eq word (codes "--version") ≡ v
    → cond h (Some Help) (cond v (Some Version) None) ≡ Some asked → line_of (program ∷ word ∷ []) ≡ None
by_word program word true v asked eh ev e = subst (λ w. line_of (program ∷ w ∷ []) ≡ None) (sym (text_is _ _ eh)) (help_line program)
by_word program word false true asked eh ev e = subst (λ w. line_of (program ∷ w ∷ []) ≡ None) (sym (text_is _ _ ev)) (version_line program)
by_word program word false false asked eh ev e = cc

by_words : (program command word : Text) (h : Bool) (asked : Ask) → bytes_eq word (codes "--help") ≡ h
    → cond h (option_map HelpOf (topic_of command)) None ≡ Some asked → line_of (program ∷ command ∷ word ∷ []) ≡ None
by_words program command word true asked eh e =
    subst (λ w. line_of (program ∷ command ∷ w ∷ []) ≡ None) (sym (text_is _ _ eh)) (of_command program command (topic_of command) asked refl e)
by_words program command word false asked eh e = cc

pub asks_none : (words : List Text) (asked : Ask) → ask_of words ≡ Some asked → line_of words ≡ None
asks_none [] asked e = cc
asks_none (program ∷ []) asked e = cc
asks_none (program ∷ word ∷ []) asked e = by_word program word (bytes_eq word (codes "--help")) (bytes_eq word (codes "--version")) asked refl refl e
asks_none (program ∷ command ∷ word ∷ []) asked e = by_words program command word (bytes_eq word (codes "--help")) asked refl e
asks_none (program ∷ command ∷ word ∷ more ∷ rest) asked e = cc

-- The packets that ask for what is missing: range NACKs (VSF TR-06-1) or generic NACKs (RFC 4585, section 6.2.1), and
-- where numbers have 32 bits a sequence extension before them (this profile).
use Rattle.std.specs.Prelude.{ℕ, ◌/◌, ◌%◌, List, [], ◌∷◌, map, ◌==◌, if◌then◌else◌, Option, None, Some}
use Rattle.std.specs.List.{flat_map}
use Rattle.seq_unwrap.specs.declared.width.Width.{Width}
use Rattle.seq_unwrap.specs.declared.width.Width.TheVariants.{W16, W32}
use Rattle.receiver_rules.specs.declared.limits.Limits.{Limits}
use Rattle.receiver_rules.specs.Packets.{is_kept}
use Rattle.receiver_rules.specs.History.{verdict}
use Rattle.rtcp_compound.specs.Compound.{Content, application, feedback}
use Rattle.rtcp_compound.specs.Name.{rist_name}
use Rattle.rist_nack.specs.Written.{words_spelling, upper_spelling}
use Rattle.request_rules.specs.declared.policy.NackKind.{NackKind}
use Rattle.request_rules.specs.declared.policy.NackKind.TheVariants.{Range, Mask}
use Rattle.request_rules.specs.declared.word.AskWord.{AskWord}
use Rattle.request_rules.specs.Steps.{Input, Media, Control, Keepalive, Refused, Tick, End, Step, buffer_history}

-- ---- the width

-- how many bits the numbers of the last kept packet had, after one more step
abbrev pub width_after : Limits → Width → List Step → ℕ → Input → Width
width_after limits width before tick (Media arrival) =
    if is_kept (verdict limits (buffer_history before) tick arrival) then arrival.width else width
width_after limits width before tick (Control sample request) = width
width_after limits width before tick Keepalive = width
width_after limits width before tick Refused = width
width_after limits width before tick (Tick micros) = width
width_after limits width before tick End = width

-- how many bits the numbers of the last kept packet had
abbrev pub width_of : Limits → List Step → Width
width_of limits [] = W16
width_of limits (step ∷ before) = width_after limits (width_of limits before) before step.tick step.input

-- ---- the words

-- the upper half of a word's first number, of 32 bits
abbrev pub upper_of : AskWord → ℕ
upper_of word = word.first / 65536 % 65536

-- words whose first numbers have the same upper half
pub record Group : Type 0 where
  pub upper : ℕ
  pub words : List AskWord

-- a word in a group of its own
abbrev pub group_of : AskWord → Group
group_of word = record { upper = upper_of word; words = word ∷ [] }

-- one more word before groups
abbrev pub group_with : AskWord → List Group → List Group
group_with word [] = group_of word ∷ []
group_with word (group ∷ groups) =
    if group.upper == upper_of word then record { upper = group.upper; words = word ∷ group.words } ∷ groups
    else group_of word ∷ group ∷ groups

-- words in groups of the same upper half, in their order
abbrev pub groups_of : List AskWord → List Group
groups_of [] = []
groups_of (word ∷ words) = group_with word (groups_of words)

-- a word as it is written: the lower half of its first number, and its second half
abbrev pub halves_of : AskWord → ℕ × ℕ
halves_of word = (word.first % 65536, word.second)

-- the octets of words
abbrev pub word_octets : List AskWord → List ℕ
word_octets words = words_spelling (map halves_of words)

-- ---- the packets

-- a request for retransmission: a range NACK, or a generic NACK, which names its sender too
abbrev pub nack : NackKind → ℕ → ℕ → List AskWord → Content
nack Range own flow words = application 0 flow rist_name (word_octets words)
nack Mask own flow words = feedback 205 1 own flow (word_octets words)

-- a sequence extension, and the words for which it holds
abbrev pub extended_nack : NackKind → ℕ → ℕ → Group → List Content
extended_nack kind own flow group =
    application 1 flow rist_name (upper_spelling group.upper) ∷ nack kind own flow group.words ∷ []

-- the packets that ask by some words: where numbers have 32 bits an extension stands before each group
abbrev pub nacks : NackKind → ℕ → ℕ → Width → List AskWord → List Content
nacks kind own flow width [] = []
nacks kind own flow W16 (word ∷ words) = nack kind own flow (word ∷ words) ∷ []
nacks kind own flow W32 (word ∷ words) = flat_map (extended_nack kind own flow) (groups_of (word ∷ words))

-- none where no flow is known
abbrev pub flow_nacks : NackKind → ℕ → Option ℕ → Width → List AskWord → List Content
flow_nacks kind own None width words = []
flow_nacks kind own (Some flow) width words = nacks kind own flow width words

-- What is printed of a word that begins as an address and is none.
use Rattle.std.specs.Prelude.{ℕ, List, codes}
use Rattle.media_address.specs.declared.bad.AddressBad.{AddressBad}
use Rattle.media_address.specs.declared.bad.AddressBad.TheVariants.{NoAddress, NoSetting}

-- the text of each
abbrev pub text_of : AddressBad → List ℕ
text_of NoAddress = codes "no address a.b.c.d:port or [IPv6]:port"
text_of NoSetting =
    codes "behind ? stands neither from= with an address of the same kind nor ttl=1..255 for IPv4, or one twice"

-- The keys among the fields read so far, and the head that they make at the end of the line.
use Rattle.std.specs.Prelude.{ℕ, suc, Bool, true, false, cond, List, length, eqb, Some, None}
use Rattle.std.proofs.Math.Option.{Option, none, some}
use Rattle.format.specs.Lines.{Piece}
use Rattle.format.specs.Decimal.{worth}
use Rattle.format.specs.Fields.{Field, last_of, settled}
use Rattle.format.specs.Version.{version}
use Rattle.format.specs.declared.Version.{Version}
use Rattle.format.specs.declared.Kind.{Kind}
use Rattle.format.specs.declared.Kind.TheVariants.{Header, ReferenceSequence, ReadGroup, Program, Comment}
use Rattle.std.specs.Prelude as prelude
use Rattle.field.specs.declared.ParsedField as field
use Rattle.field.specs.Spelled.{parsed_version_of}
use Rattle.field_tag.specs.Numbers.{is_version, is_length}
use Rattle.record.specs.declared.Stretch.{Stretch}
use Rattle.record.specs.declared.Keys.{Keys}
use Rattle.record.specs.declared.Head.{Head}
use Rattle.record.specs.declared.Head.TheVariants as head
use Rattle.format.specs.Keys.{is_key}
use Rattle.record_tags.specs.Others.{unkeyed}

-- ---- what the fields say

-- SN of SQ, ID of RG and PG
unfoldable pub key_among : Kind → List Field → Option Piece
unfolding last_of
key_among Header fs = none
key_among ReferenceSequence fs = last_of 83 78 fs
key_among ReadGroup fs = last_of 73 68 fs
key_among Program fs = last_of 73 68 fs
key_among Comment fs = none

unfoldable pub spelt : Option Piece → Option Version
unfolding version
spelt none = none
spelt (some p) = version p.bytes

-- VN of HD
unfoldable pub version_among : Kind → List Field → Option Version
unfolding spelt last_of
version_among Header fs = spelt (last_of 86 78 fs)
version_among ReferenceSequence fs = none
version_among ReadGroup fs = none
version_among Program fs = none
version_among Comment fs = none

unfoldable pub worth_if_there : Option Piece → ℕ
unfolding worth
worth_if_there none = 0
worth_if_there (some p) = worth p.bytes

-- LN of SQ
unfoldable pub length_among : Kind → List Field → ℕ
unfolding worth_if_there last_of
length_among Header fs = 0
length_among ReferenceSequence fs = worth_if_there (last_of 76 78 fs)
length_among ReadGroup fs = 0
length_among Program fs = 0
length_among Comment fs = 0

-- ---- as the code keeps it

unfoldable pub stretch_if_there : Option Piece → Stretch
stretch_if_there none = record { at = 0; len = 0 }
stretch_if_there (some p) = record { at = p.at; len = length p.bytes }

unfoldable pub plainly : Option Piece → Option Version → ℕ → ℕ → Keys
unfolding stretch_if_there parsed_version_of
plainly p v l n =
    record {
      key_at = (stretch_if_there p).at;
      key_len = (stretch_if_there p).len;
      length = l;
      version = parsed_version_of v;
      others = n;
    }

-- before the first field
abbrev pub no_keys : Keys
no_keys = record { key_at = 0; key_len = 0; length = 0; version = None; others = 0 }

-- the keys of the fields read so far: a repeated tag counts once
unfoldable pub keys_of : Kind → List Field → Keys
unfolding plainly key_among version_among length_among unkeyed settled
keys_of k fs = plainly (key_among k fs) (version_among k fs) (length_among k fs) (length (settled (unkeyed k fs)))

-- ---- one field more

-- a key that is kept as a place
unfoldable pub with_place : ℕ → ℕ → Keys → Keys
with_place at n keys =
    record {
      key_at = at;
      key_len = n;
      length = keys.length;
      version = keys.version;
      others = keys.others;
    }

unfoldable pub with_version : ℕ → ℕ → Keys → Keys
with_version major minor keys =
    record {
      key_at = keys.key_at;
      key_len = keys.key_len;
      length = keys.length;
      version = Some (record { major = major; minor = minor });
      others = keys.others;
    }

unfoldable pub with_length : ℕ → Keys → Keys
with_length n keys =
    record {
      key_at = keys.key_at;
      key_len = keys.key_len;
      length = n;
      version = keys.version;
      others = keys.others;
    }

-- a field that is not a key: it counts as one more, unless its tag was there before
unfoldable pub with_other : Bool → Keys → Keys
with_other again keys =
    record {
      key_at = keys.key_at;
      key_len = keys.key_len;
      length = keys.length;
      version = keys.version;
      others = cond again keys.others (suc keys.others);
    }

-- a field whose value is at the offset `at`; `again` says whether its tag was there before
unfoldable pub with_field : Kind → field.ParsedField → ℕ → Bool → Keys → Keys
unfolding is_key is_version is_length with_place with_version with_length with_other
with_field k f at again keys =
    cond (is_key k f.tag_0 f.tag_1)
    (cond (is_version k f.tag_0 f.tag_1) (with_version f.major f.minor keys)
    (cond (is_length k f.tag_0 f.tag_1) (with_length f.length keys)
    (with_place at f.len keys)))
    (with_other again keys)

-- ---- the end of the line

-- RG and PG need ID
unfoldable pub keyed_head : (Stretch → Head) → Keys → Head
keyed_head h keys = cond (eqb keys.key_len 0) (head.Refused 15) (h (record { at = keys.key_at; len = keys.key_len }))

-- HD needs VN
unfoldable pub versioned_head : prelude.Option Version → ℕ → Head
versioned_head None n = head.Refused 15
versioned_head (Some v) n = head.Header v n

-- HD needs VN; SQ needs SN, then LN
unfoldable pub head_from : Kind → Keys → Head
unfolding keyed_head versioned_head
head_from Header keys = versioned_head keys.version keys.others
head_from ReferenceSequence keys = keyed_head (λ p. cond (eqb keys.length 0) (head.Refused 16) (head.ReferenceSequence p keys.length keys.others)) keys
head_from ReadGroup keys = keyed_head (λ p. head.ReadGroup p keys.others) keys
head_from Program keys = keyed_head (λ p. head.Program p keys.others) keys
head_from Comment keys = head.Refused 15

-- The bench samples of 01 that are marked P, and its dump sample: the definition computes each. Assumes nothing.
use Rattle.std.specs.Prelude.{◌≡◌, refl, List, [], ◌∷◌, map, ℕ, length, replicate, ℤ, pos, negsuc}
use Rattle.terms.specs.Refusals.{No, no}
use Rattle.bits.specs.Reader.{Answer, got, refused, onward, ◌>>=◌, give, stop, require, when◌then◌else◌, here, turns, at_place, placed}
use Rattle.bits.specs.Bits.{bit, field, limit, field_at, reach, read, align, chunks, vbr, ends_at, signed_of}
use Rattle.bitcode.specs.Scalar.{ascii, value}
use Rattle.bitcode.specs.Header.{word, wrapped, signature}
use Rattle.abbrev.specs.Abbrev.{width, kind, operand, element, also, rest_of, operands, define, number_of, look_up}
use Rattle.abbrev.specs.BlockInfo.{shared_for, every, or_else, readable, chosen, info_definition, set_bid, letters, block_name, record_name, info_record, info_numbered, info_item, info_on, info}
use Rattle.walk.specs.Record.{stored, values, repeated, octets, bytes_if, bytes, payload_part, scalar_part, unabbreviated, array_kind, rest, load_list, record_list}
use Rattle.walk.specs.Piece.{record_of, entering, skipping, leaving, events, all_events, counted, all_counted, store, all_store, added, all_added, own, after, entered}
use Rattle.walk.specs.Item.{heading, used, begun, begin, event_room, leave_room, fits, finish, at_end, opening, within, body_of, complete, item, going_on, items, nested}
use Rattle.walk.specs.Walk.{top_level, start, top_items, outcome, walk_stream, walk_by, listed, those, walk, entry, entries, filled, Result, no_header, result, walked}

-- ---- what is asked: a VBR number of a width, a signed number, or a whole input, with an event store of 32 numbers and an operand store of 4
data Question : Type 0 where
  as_vbr : ℕ → List ℕ → Question
  as_signed : ℕ → Question
  as_log : List ℕ → Question

data Reply : Type 0 where
  number : ℕ → Reply
  number_refused : ℕ → Reply
  integer : ℤ → Reply
  log : Result → Reply

data Sample : Type 0 where
  sample : Question → Reply → Sample

saw : Answer No ℕ → Reply
saw (got v q) = number v
saw (refused (no n x y)) = number_refused n

ask : Question → Reply
ask (as_vbr w bs) = saw (vbr w bs (length bs) 0)
ask (as_signed v) = integer (signed_of v)
ask (as_log bs) = log (walked bs [] 32 4)

asked : Sample → Reply
asked (sample q r) = ask q

reply : Sample → Reply
reply (sample q r) = r

-- ---- the table
refused_empty : Result
refused_empty = record {
  status = 1;
  place = 0;
  first = 0;
  second = 0;
  header = no_header;
  event_count = 0;
  operand_count = 0;
  event_store = replicate 32 0;
  operand_store = replicate 4 0;
}

accepted_bare : Result
accepted_bare = record {
  status = 0;
  place = 0;
  first = 0;
  second = 0;
  header = record { magic = 0xdec04342; magic2 = 0; version = 0; offset = 4; size = 0; cpu = 0 };
  event_count = 0;
  operand_count = 0;
  event_store = replicate 32 0;
  operand_store = replicate 4 0;
}

-- enter 8, a record of code 1 with the operand 2, leave 8
accepted_dump : Result
accepted_dump = record {
  status = 0;
  place = 0;
  first = 0;
  second = 0;
  header = record { magic = 0xdec04342; magic2 = 0; version = 0; offset = 4; size = 12; cpu = 0 };
  event_count = 3;
  operand_count = 1;
  event_store =
      1 ∷ 8 ∷ 3 ∷ 8 ∷ 4 ∷ 0 ∷ 0 ∷ 0 ∷
      3 ∷ 8 ∷ 1 ∷ 0 ∷ 1 ∷ 0 ∷ 0 ∷ 0 ∷
      2 ∷ 8 ∷ 0 ∷ 0 ∷ 0 ∷ 0 ∷ 0 ∷ 0 ∷
      replicate 8 0;
  operand_store = 2 ∷ replicate 3 0;
}

table : List Sample
table =
    sample (as_vbr 4 (0x3B ∷ [])) (number 27) ∷
    sample (as_vbr 6 (0x1F ∷ [])) (number 31) ∷
    sample (as_vbr 6 (0x60 ∷ 0x00 ∷ [])) (number 32) ∷
    sample (as_signed 0) (integer (pos 0)) ∷
    sample (as_signed 1) (integer (negsuc 9223372036854775807)) ∷
    sample (as_signed 2) (integer (pos 1)) ∷
    sample (as_signed 3) (integer (negsuc 0)) ∷
    sample (as_signed 18446744073709551615) (integer (negsuc 9223372036854775806)) ∷
    sample (as_log []) (log refused_empty) ∷
    sample (as_log (0x42 ∷ 0x43 ∷ 0xC0 ∷ 0xDE ∷ [])) (log accepted_bare) ∷
    sample (as_log (0x42 ∷ 0x43 ∷ 0xC0 ∷ 0xDE ∷ 0x21 ∷ 0x0C ∷ 0x00 ∷ 0x00 ∷ 0x01 ∷ 0x00 ∷ 0x00 ∷ 0x00 ∷ 0x0B ∷ 0x02 ∷ 0x01 ∷ 0x00 ∷ [])) (log accepted_dump) ∷
    []

samples : map asked table ≡ map reply table
unfolding table asked reply ask saw refused_empty accepted_bare accepted_dump onward ◌>>=◌ give stop require when◌then◌else◌ here turns at_place placed
    bit field limit field_at reach read align chunks vbr ends_at signed_of ascii value word wrapped signature
    width kind operand element also rest_of operands define number_of look_up
    shared_for every or_else readable chosen info_definition set_bid letters block_name record_name info_record info_numbered info_item info_on info
    stored values repeated octets bytes_if bytes payload_part scalar_part unabbreviated array_kind rest load_list record_list
    record_of entering skipping leaving events all_events counted all_counted store all_store added all_added own after entered
    heading used begun begin event_room leave_room fits finish at_end opening within body_of complete item going_on items nested
    top_level start top_items outcome walk_stream walk_by listed those walk entry entries filled result walked
samples = refl

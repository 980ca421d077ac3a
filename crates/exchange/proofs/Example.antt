-- Demand 3 at two inputs, and the exchanged inputs by evaluation. The stores are just large enough. Assumes nothing.
use mathlib.Core.Path.{◌≡◌, refl}
use mathlib.Core.List.{List, [], ◌∷◌}
use Prim.Native.Nat.{ℕ}
use native.Mathlib.Omega.{arith}
use Rattle.bits.specs.Reader.{onward, ◌>>=◌, give, stop, require, when◌then◌else◌, here, turns, at_place, placed}
use Rattle.bits.specs.Bits.{bit, field, limit, field_at, reach, read, align, chunks, vbr, ends_at}
use Rattle.bitcode.specs.declared.ScalarOperand.TheVariants.{Literal, Fixed, Vbr, Char6}
use Rattle.bitcode.specs.declared.Signature.{Signature}
use Rattle.bitcode.specs.Scalar.{ascii, value}
use Rattle.bitcode.specs.Header.{word, wrapped, signature, stream}
use Rattle.abbrev.specs.Abbrev.{blob, array, abbreviation, width, kind, operand, element, also, rest_of, operands, define, number_of, look_up}
use Rattle.abbrev.specs.BlockInfo.{shared, shared_for, every, or_else, readable, chosen, info_definition, set_bid, letters, block_name, record_name, info_record, info_numbered, info_item, info_on, info}
use Rattle.walk.specs.Record.{no_load, list_load, blob_load, a_record, stored, values, repeated, octets, bytes_if, bytes, payload_part, scalar_part, unabbreviated, array_kind, rest, load_list, record_list}
use Rattle.walk.specs.Piece.{head, Piece, the_record, definition, blockinfo, skipped, block, done, ◌then◌, Event, enter, skip, leave, record_event, record_of, entering, skipping, leaving, events, all_events, counted, all_counted, store, all_store, added, all_added, own, after, entered}
use Rattle.walk.specs.Shown.{Shown, enters, leaves, holds, bytes_at, payload, shown, all_shown}
use Rattle.walk.specs.Item.{heading, used, begun, begin, event_room, leave_room, fits, finish, at_end, opening, within, body_of, complete, item, going_on, items, nested}
use Rattle.walk.specs.Walk.{top_level, start, top_items, Outcome, denied, accepted, outcome, walk_stream, walk_by, listed, those, walk}
use Rattle.relocation.specs.Spot.{Spot, right_here, later, inside, plug, IsBlock, Quiet, Quiets, from_of, head_end, to_of}
use Rattle.exchange.specs.Input.{exchange, base_of, exchanged}
use Rattle.exchange.specs.Demand3.{looked, Exchanged}
use Rattle.exchange.proofs.Demand3.{demand_3}

events_of : Outcome → List Event
events_of (denied r) = []
events_of (accepted h xs) = all_events xs

-- what the events show, looked up in the store and in the input
seen : List ℕ → Outcome → List Shown
seen bs (denied r) = []
seen bs (accepted h xs) = looked bs xs (all_events xs)

-- ---- no wrapper; two casings, both of block number 8: each has an abbreviation 4 of its own
casings : List ℕ
casings =
    0x42 ∷ 0x43 ∷ 0xC0 ∷ 0xDE ∷ 0x21 ∷ 0x10 ∷ 0x00 ∷ 0x00 ∷ 0x06 ∷ 0x00 ∷ 0x00 ∷ 0x00 ∷ 0x32 ∷ 0x06 ∷ 0x98 ∷ 0x20 ∷
    0x1A ∷ 0x0A ∷ 0x0C ∷ 0x0E ∷ 0x22 ∷ 0x61 ∷ 0x00 ∷ 0x00 ∷ 0x01 ∷ 0x00 ∷ 0x00 ∷ 0x00 ∷ 0x3B ∷ 0x02 ∷ 0x53 ∷ 0x00 ∷
    0x00 ∷ 0x00 ∷ 0x00 ∷ 0x00 ∷ 0x21 ∷ 0x10 ∷ 0x00 ∷ 0x00 ∷ 0x05 ∷ 0x00 ∷ 0x00 ∷ 0x00 ∷ 0x32 ∷ 0x0A ∷ 0x90 ∷ 0x51 ∷
    0x42 ∷ 0x03 ∷ 0x01 ∷ 0x00 ∷ 0x61 ∷ 0x62 ∷ 0x00 ∷ 0x00 ∷ 0x32 ∷ 0x16 ∷ 0x18 ∷ 0x96 ∷ 0x00 ∷ 0x6C ∷ 0x00 ∷ 0x00 ∷
    0x0F ∷ 0x43 ∷ 0xA2 ∷ 0x2C ∷
    []

casings_header : Signature
casings_header = record { magic = 0xdec04342; magic2 = 0; version = 0; offset = 4; size = 64; cpu = 0 }

-- a definition, by it a record of code 1 with the array 5, 6, 7; block 9 with a record of code 7 with the operand 70
casings_first : Piece
casings_first = block 0 (head 8 4 8 24)
    (◌then◌ (definition (abbreviation (Literal 1 ∷ []) (array (Fixed 8))))
    (◌then◌ (the_record 95 8 0 (a_record 1 [] (list_load 1 (5 ∷ 6 ∷ 7 ∷ []))))
    (◌then◌ (block 129 (head 9 3 24 4) (◌then◌ (the_record 192 9 3 (a_record 7 (70 ∷ []) no_load)) (done 219))) (done 224))))

-- another definition, by it a record of code 2 with the operand 40 and a blob; a second one, by it a record of code 5 with the Char6 array "aB"
casings_second : Piece
casings_second = block 256 (head 8 4 40 20)
    (◌then◌ (definition (abbreviation (Literal 2 ∷ Vbr 6 ∷ []) blob))
    (◌then◌ (the_record 351 8 4 (a_record 2 (40 ∷ []) (blob_load 48 (0x61 ∷ 0x62 ∷ []))))
    (◌then◌ (definition (abbreviation (Literal 5 ∷ []) (array Char6)))
    (◌then◌ (the_record 442 8 5 (a_record 5 [] (list_load 2 (97 ∷ 66 ∷ [])))) (done 464)))))

-- behind them: a record of code 3 with the operands 9, 10, 11
casings_spot : Spot
casings_spot = right_here (◌then◌ (the_record 480 4294967295 7 (a_record 3 (9 ∷ 10 ∷ 11 ∷ []) no_load)) (done 512))

casings_swapped : List Event
casings_swapped =
    enter 8 4 8 20 ∷ record_event 8 2 0 1 3 16 2 ∷ record_event 8 5 1 0 2 1 2 ∷ leave 8 ∷
    enter 8 4 36 24 ∷ record_event 8 1 3 0 1 3 3 ∷ enter 9 3 52 4 ∷ record_event 9 7 6 1 0 0 0 ∷ leave 9 ∷ leave 8 ∷
    record_event 4294967295 3 7 3 0 0 0 ∷
    []

casings_seen : List Shown
casings_seen =
    enters 8 4 20 ∷ holds 8 2 (40 ∷ []) 3 (0x61 ∷ 0x62 ∷ []) ∷ holds 8 5 [] 2 (97 ∷ 66 ∷ []) ∷ leaves 8 ∷
    enters 8 4 24 ∷ holds 8 1 [] 1 (5 ∷ 6 ∷ 7 ∷ []) ∷ enters 9 3 4 ∷ holds 9 7 (70 ∷ []) 0 [] ∷ leaves 9 ∷ leaves 8 ∷
    holds 4294967295 3 (9 ∷ 10 ∷ 11 ∷ []) 0 [] ∷
    []

-- ---- a wrapper; BLOCKINFO; then block 8, in it an entered block and a skipped one
deep : List ℕ
deep =
    0xDE ∷ 0xC0 ∷ 0x17 ∷ 0x0B ∷ 0x01 ∷ 0x00 ∷ 0x00 ∷ 0x00 ∷ 0x14 ∷ 0x00 ∷ 0x00 ∷ 0x00 ∷ 0x50 ∷ 0x00 ∷ 0x00 ∷ 0x00 ∷
    0x07 ∷ 0x00 ∷ 0x00 ∷ 0x00 ∷ 0x42 ∷ 0x43 ∷ 0xC0 ∷ 0xDE ∷ 0x01 ∷ 0x08 ∷ 0x00 ∷ 0x00 ∷ 0x02 ∷ 0x00 ∷ 0x00 ∷ 0x00 ∷
    0x07 ∷ 0x41 ∷ 0xE2 ∷ 0x90 ∷ 0x61 ∷ 0x08 ∷ 0x00 ∷ 0x00 ∷ 0x21 ∷ 0x0C ∷ 0x00 ∷ 0x00 ∷ 0x0D ∷ 0x00 ∷ 0x00 ∷ 0x00 ∷
    0x12 ∷ 0x09 ∷ 0x94 ∷ 0x02 ∷ 0x61 ∷ 0x62 ∷ 0x00 ∷ 0x00 ∷ 0x49 ∷ 0x20 ∷ 0x00 ∷ 0x00 ∷ 0x05 ∷ 0x00 ∷ 0x00 ∷ 0x00 ∷
    0x64 ∷ 0x01 ∷ 0xD8 ∷ 0x64 ∷ 0x14 ∷ 0x20 ∷ 0xA3 ∷ 0x85 ∷ 0x06 ∷ 0x01 ∷ 0x00 ∷ 0x00 ∷ 0x7A ∷ 0x00 ∷ 0x00 ∷ 0x00 ∷
    0x00 ∷ 0x00 ∷ 0x00 ∷ 0x00 ∷ 0x51 ∷ 0x10 ∷ 0x00 ∷ 0x00 ∷ 0x01 ∷ 0x00 ∷ 0x00 ∷ 0x00 ∷ 0xFF ∷ 0xFF ∷ 0xFF ∷ 0xFF ∷
    0x0B ∷ 0x82 ∷ 0x04 ∷ 0x00 ∷
    []

deep_skips : List ℕ
deep_skips = 10 ∷ []

deep_header : Signature
deep_header = record { magic = 0x0B17C0DE; magic2 = 0xdec04342; version = 1; offset = 20; size = 80; cpu = 7 }

-- block 9: a record of code 6 with the Char6 array "aB", by the shared abbreviation; a local one; by it a record of code 2 with the operand 40
-- and a blob
deep_first : Piece
deep_first = block 256 (head 9 4 40 20)
    (◌then◌ (the_record 320 9 0 (a_record 6 [] (list_load 2 (97 ∷ 66 ∷ []))))
    (◌then◌ (definition (abbreviation (Literal 2 ∷ Vbr 6 ∷ []) blob))
    (◌then◌ (the_record 376 9 2 (a_record 2 (40 ∷ []) (blob_load 52 (0x7A ∷ [])))) (done 448))))

deep_second : Piece
deep_second = skipped 480 (head 10 2 68 4)

-- before them BLOCKINFO; in block 8 a local abbreviation and a record with a blob; behind them a record of code 1 with the operand 9
deep_spot : Spot
deep_spot =
    later (blockinfo 0 (head 0 2 8 8) (shared 9 (abbreviation (Fixed 3 ∷ []) (array Char6)) ∷ []))
    (inside 128 (head 8 3 24 52)
    (later (definition (abbreviation (Literal 4 ∷ []) blob))
    (later (the_record 213 8 0 (a_record 4 [] (blob_load 28 (0x61 ∷ 0x62 ∷ []))))
    (right_here (◌then◌ (the_record 576 8 3 (a_record 1 (9 ∷ []) no_load)) (done 597)))))
    (done 608))

deep_swapped : List Event
deep_swapped =
    enter 8 3 24 52 ∷ record_event 8 4 0 0 3 28 2 ∷
    skip 10 2 40 4 ∷
    enter 9 4 52 20 ∷ record_event 9 6 0 0 2 0 2 ∷ record_event 9 2 2 1 3 64 1 ∷ leave 9 ∷
    record_event 8 1 3 1 0 0 0 ∷ leave 8 ∷
    []

-- ---- what the walk gives, by evaluation: as they are, and exchanged
evaluated :
    (walk casings [] 88 10 ≡ accepted casings_header (plug casings_spot casings_first casings_second))
    × (events_of (walk (exchanged casings casings_first casings_second) [] 88 10) ≡ casings_swapped)
    × (seen (exchanged casings casings_first casings_second) (walk (exchanged casings casings_first casings_second) [] 88 10) ≡ casings_seen)
    × (walk deep deep_skips 72 4 ≡ accepted deep_header (plug deep_spot deep_first deep_second))
    × (events_of (walk (exchanged deep deep_first deep_second) deep_skips 72 4) ≡ deep_swapped)
unfolding casings casings_header casings_first casings_second casings_spot casings_swapped casings_seen
    deep deep_skips deep_header deep_first deep_second deep_spot deep_swapped
    events_of seen plug exchanged base_of exchange from_of to_of head_end onward ◌>>=◌ give stop require when◌then◌else◌ here turns at_place placed
    bit field limit field_at reach read align chunks vbr ends_at ascii value word wrapped signature stream bytes_at payload shown all_shown
    width kind operand element also rest_of operands define number_of look_up
    shared_for every or_else readable chosen info_definition set_bid letters block_name record_name info_record info_numbered info_item info_on info
    stored values repeated octets bytes_if bytes payload_part scalar_part unabbreviated array_kind rest load_list record_list
    record_of entering skipping leaving events all_events counted all_counted store all_store added all_added own after entered
    heading used begun begin event_room leave_room fits finish at_end opening within body_of complete item going_on items nested
    top_level start top_items outcome walk_stream walk_by listed those walk
evaluated = (refl, refl, refl, refl, refl)

-- ---- demand 3 applies to both
casings_hold : Exchanged casings [] 88 10 casings_header casings_spot casings_first casings_second
unfolding IsBlock Quiet Quiets casings casings_first casings_second from_of word
casings_hold = demand_3 casings [] 88 10 casings_header casings_spot casings_first casings_second (record {
  meets = evaluated.0;
  first_block = tt;
  second_block = tt;
  aligned = refl;
  clear = λ z. absurd (omega arith);
  first_quiet = (tt, (tt, ((tt, tt), tt)));
  second_quiet = (tt, (tt, (tt, (tt, tt))));
})

deep_holds : Exchanged deep deep_skips 72 4 deep_header deep_spot deep_first deep_second
unfolding IsBlock Quiet Quiets deep deep_first deep_second from_of base_of word when◌then◌else◌
deep_holds = demand_3 deep deep_skips 72 4 deep_header deep_spot deep_first deep_second (record {
  meets = evaluated.3;
  first_block = tt;
  second_block = tt;
  aligned = refl;
  clear = λ z. omega arith;
  first_quiet = (tt, (tt, (tt, tt)));
  second_quiet = tt;
})

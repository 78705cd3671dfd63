-- Document 01, "Values to check": P1 to P12 as one table, the record `Values`. Each row is about
-- the definition that the contract of the call uses.
-- Assumes nothing.
use Rattle.std.specs.Prelude.{◌≡◌, true, false, List, [], ◌∷◌, ℕ, ◌+◌, length, replicate, set, Ok}
use Rattle.sequence.specs.Numbers.{link, packet}
use Rattle.wordset.specs.Sets.{with}
use Rattle.window.specs.declared.sender.Sender.{Sender}
use Rattle.window.specs.Sending.{send_of}
use Rattle.resequencer.specs.declared.Resequencer.{Resequencer}
use Rattle.resequencer.specs.declared.Answer.{Answer}
use Rattle.resequencer.specs.Events.{plain, handed, arrive_of, clock_end_of}
use Rattle.frame_form.specs.declared.Form.{Form}
use Rattle.frame_form.specs.declared.Form.TheVariants.{LongUplink, LongDownlink}
use Rattle.frame.specs.declared.Packet.{Packet}
use Rattle.frame.specs.declared.Packet.TheVariants.{Data, ClearRequest, ClearConfirmation}
use Rattle.frame.specs.Writing.{write_of, write_output}
use Rattle.frame.specs.Reading.{read_of}
use Rattle.route.specs.declared.Updated.{Updated}
use Rattle.route.specs.Updating.{empty_table, reported, update_of}
use Rattle.resequencer.specs.declared.Outcome.TheVariants.{Held, Old}
use Rattle.frame.specs.declared.Contents.TheVariants.{Packet as PacketIn}
use Rattle.refusal.specs.Numbers.{refusal_number}

-- ---- the window

-- the sending end with this edge and next, not held
abbrev pub sender_with : ℕ → ℕ → Sender
sender_with edge next = record { edge = packet edge; ps = packet next; held = false }

-- ---- the resequencer

-- the state with NESN n, fresh otherwise
abbrev pub fresh_at : ℕ → Resequencer
fresh_at n = record { nesn = link n; hsnr = link 0; held = 0; clocks = 0; tickets = replicate 64 0 }

-- the answer to the arrival of number n; its ticket is n + 100
abbrev pub arrival : Resequencer → ℕ → Answer
arrival s n = arrive_of s n (n + 100)

-- the state after the arrivals
abbrev pub after_arrivals : Resequencer → List ℕ → Resequencer
after_arrivals s [] = s
after_arrivals s (n ∷ ns) = after_arrivals (arrival s n).next ns

-- the tickets that each of the arrivals hands on, in their order
abbrev pub handed_in_turn : Resequencer → List ℕ → List (List ℕ)
handed_in_turn s [] = []
handed_in_turn s (n ∷ ns) = handed (arrival s n) ∷ handed_in_turn (arrival s n).next ns

-- P7's state: NESN 10; 13, 14, 17 and 11 have arrived
abbrev pub early : Resequencer
early = after_arrivals (fresh_at 10) (13 ∷ 14 ∷ 17 ∷ 11 ∷ [])

-- ---- frames

-- the packets of P9, P10 and P11
abbrev pub data9 : Packet
data9 = Data (record { m = true; sn = link 5; ps = packet 3; pr = packet 2; ch = 4 })

abbrev pub request10 : Packet
request10 = ClearRequest (record { tc = 0; sn = link 9; ch = 3; am = 2; ag = 0x41; cc = 141; dc = 162; s = false; f = false })

abbrev pub confirmation11 : Packet
confirmation11 = ClearConfirmation (record { tc = 0; sn = link 9; ch = 3; am = 2; ag = 0x41 })

-- what the output holds before a frame is written to it; any 10 bytes would do
abbrev pub old : List ℕ
old = 1 ∷ 2 ∷ 3 ∷ 4 ∷ 5 ∷ 6 ∷ 7 ∷ 8 ∷ 9 ∷ 10 ∷ []

-- P9's user data; any 4 bytes would do
abbrev pub user9 : List ℕ
user9 = 7 ∷ 8 ∷ 9 ∷ 10 ∷ []

-- the frames of P9, P10 and P11
abbrev pub frame9 : List ℕ
frame9 = 0xC5 ∷ 0x32 ∷ 0x47 ∷ 7 ∷ 8 ∷ 9 ∷ 10 ∷ 0 ∷ 0 ∷ 0 ∷ []

abbrev pub frame10 : List ℕ
frame10 = 0x58 ∷ 0x09 ∷ 0x32 ∷ 0x41 ∷ 0x8D ∷ 0xA2 ∷ 0x07 ∷ 0 ∷ 0 ∷ 0 ∷ []

abbrev pub frame11 : List ℕ
frame11 = 0x5C ∷ 0x09 ∷ 0x32 ∷ 0x41 ∷ 0 ∷ 0 ∷ 0 ∷ 0 ∷ 0 ∷ 0 ∷ []

-- the packet p with this user data is written as this frame of 10 bytes, and the frame is read back
-- to it; `start` is the index of the user data. "long form": P9 to P11 hold of the long uplink and
-- of the long downlink
pub record IsFrame (form : Form) (p : Packet) (user frame : List ℕ) (start : ℕ) : Type 0 where
  pub answer : write_of form p (length user) (length old) ≡ Ok 10
  pub output : write_output form p user old ≡ frame
  pub read : read_of form frame ≡ Ok (PacketIn p (record { at = start; len = length user }))

-- ---- routes

-- P12's answer: only code 5 (the set 32, which is 2 ^ 5) at 40 hex, none reported
abbrev pub updated12 : Updated
updated12 = reported (Ok tt) (record { codes = set (replicate 256 0) 0x40 32 }) []

-- ---- the table

pub record Values : Type 0 where
  -- P1 edge 9: next 7 may be sent.
  pub p1 : send_of (sender_with 9 7) ≡ record { answer = Ok (packet 7); next = sender_with 9 8 }
  -- P2 edge 9: next 8 gives 9.
  pub p2 : refusal_number (send_of (sender_with 9 8)).answer ≡ 9
  pub p2-end : (send_of (sender_with 9 8)).next ≡ sender_with 9 8
  -- P3 NESN 62, fresh otherwise: 29 is held. P4 then 30 is old. P5 61 is old.
  pub p3 : (arrival (fresh_at 62) 29).outcome ≡ Ok Held
  pub p4 : arrival (after_arrivals (fresh_at 62) (29 ∷ [])) 30 ≡ plain (Ok Old) (after_arrivals (fresh_at 62) (29 ∷ []))
  pub p5 : arrival (fresh_at 62) 61 ≡ plain (Ok Old) (fresh_at 62)
  -- P6 NESN 62: 1, 62, 63, 0 hand on nothing, 62, 63, then 0 and 1; NESN 2, no clock.
  pub p6 : handed_in_turn (fresh_at 62) (1 ∷ 62 ∷ 63 ∷ 0 ∷ []) ≡ [] ∷ (162 ∷ []) ∷ (163 ∷ []) ∷ (100 ∷ 101 ∷ []) ∷ []
  pub p6-state : after_arrivals (fresh_at 62) (1 ∷ 62 ∷ 63 ∷ 0 ∷ []) ≡ fresh_at 2
  -- P7 NESN 10: 13, 14, 17, 11; clocks on 13 and 17.
  pub p7 : early.clocks ≡ with 64 (with 64 0 13) 17
  -- P8 clock 13 ends: 11, 13, 14; NESN 15.
  pub p8 : handed (clock_end_of early 13) ≡ 111 ∷ 113 ∷ 114 ∷ []
  pub p8-nesn : (clock_end_of early 13).next.nesn ≡ link 15
  pub p8-clocks : (clock_end_of early 13).next.clocks ≡ with 64 0 17
  -- P9 DATA M 1, SN 5, PS 3, PR 2, CH 4, 4 user bytes, long form: begins C5 32 47, frame 10 bytes.
  pub p9 : IsFrame LongUplink data9 user9 frame9 3
  pub p9-downlink : IsFrame (LongDownlink 1) data9 user9 frame9 3
  -- P10 CLEAR REQUEST, long form, TC 0, SN 9, CH 3, AM 2, AG 41 hex, CC 141, DC 162, S 0, F 0: 58
  -- 09 32 41 8D A2 07 and three zeros.
  pub p10 : IsFrame LongUplink request10 [] frame10 7
  pub p10-downlink : IsFrame (LongDownlink 1) request10 [] frame10 7
  -- P11 CONFIRMATION, same fields: 5C 09 32 41 and six zeros.
  pub p11 : IsFrame LongUplink confirmation11 [] frame11 4
  pub p11-downlink : IsFrame (LongDownlink 1) confirmation11 [] frame11 4
  -- P12 list 59 12 40 50 12 on an empty table leaves only code 5 at 40 hex, none reported. Same for
  -- 50 12 59 12 40.
  pub p12 : update_of empty_table (0x59 ∷ 0x12 ∷ 0x40 ∷ 0x50 ∷ 0x12 ∷ []) ≡ updated12
  pub p12-turned : update_of empty_table (0x50 ∷ 0x12 ∷ 0x59 ∷ 0x12 ∷ 0x40 ∷ []) ≡ updated12

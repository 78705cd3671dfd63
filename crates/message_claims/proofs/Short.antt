-- When cutting answers 23, and that joining never does: the checks of each call, one by one.
-- Assumes nothing.
use mathlib.Core.Path.{◌≡◌, refl, sym, ◌∙◌, subst}
use mathlib.Core.Bool.{Bool, true, false, cond, not, ◌&&◌, ◌||◌}
use mathlib.Core.List.{List, [], ◌∷◌}
use mathlib.Core.Logic.{◌≢◌}
use Prim.Native.Nat.{ℕ, ◌+◌}
use native.Mathlib.Omega.{arith}
use lib.Dec.{leb, eqb}
use lib.ListN.{length}
use Rattle.refusal.specs.declared.Refusal.TheVariants.{OutOfRange, Malformed, FormatError, MessageTooLong, OutputTooShort, RunBroken, ShortForm}
use Rattle.refusal.specs.Numbers.{check, refusal_number, Verdict}
use Rattle.refusal.specs.Positions.{Checked, check_at, and_then_at, all_at, from, fault_number}
use Rattle.refusal.proofs.Checks.{check-never, at-never, then-at-never}
use Rattle.lists.specs.Frames.{bytes_in, parts_of, sum, is_none}
use Rattle.frame_form.specs.declared.Form.{Form}
use Rattle.frame_form.specs.declared.Form.TheVariants.{ShortUplink}
use Rattle.frame_form.specs.Forms.{form_valid, is_long}
use Rattle.frame.specs.declared.Data.{Data}
use Rattle.frame.specs.Packets.{as_data, Read}
use Rattle.frame.specs.Writing.{fits}
use Rattle.frame.specs.Reading.{read_of, data_in}
use Rattle.frame.proofs.Numbers.{read-not-short}
use Rattle.message.specs.declared.cutting.Start.{Start}
use Rattle.message.specs.Cutting.{data_of, frames_of, cut_verdict, cut_by, cut_of}
use Rattle.message.specs.Joining.{follows, data_verdict, packet_verdict, turn_checks, frames_checks, message_in, size_verdict, join_checks, join_of}
use Rattle.message.proofs.Numbers.{cut_by_lem, join_by_lem}
use Rattle.message_claims.specs.Short.{ShortNotCut}
use Rattle.frame.specs.declared.Contents.TheVariants.{Packet as PacketIn, Route as RouteIn}
use Rattle.std.specs.Prelude.{Ok, Err, Option, Some, None}

-- ---- cutting

-- the form is valid; then 1 and 23, before all others
by-fit : (b : Bool) (frames : List (List ℕ)) → cut_by (check b OutOfRange (Err ShortForm)) frames ≡ Err (cond b ShortForm OutOfRange)
by-fit true frames = refl
by-fit false frames = refl

in-short : (s : Start) (message : List ℕ) (room places : ℕ) → cut_of ShortUplink s message room places ≡ Err (cond (fits ShortUplink (data_of s false) 0) ShortForm OutOfRange)
unfolding cut_of cut_verdict
in-short s message room places = by-fit (fits ShortUplink (data_of s false) 0) (frames_of ShortUplink s message)

in-long : (form : Form) (s : Start) (message : List ℕ) (room places : ℕ) → is_long form ≡ true → refusal_number (cut_of form s message room places) ≢ 23
unfolding cut_of cut_verdict
in-long form s message room places long e =
    let fs = frames_of form s message in
    let r4 = check (leb (length fs) places) OutputTooShort (Ok tt) in
    let r3 = check (leb (length (bytes_in fs)) room) OutputTooShort r4 in
    let r2 = check (leb (length message) 4096) MessageTooLong r3 in
    let r1 = check (is_long form) ShortForm r2 in
    let never-4 = check-never 23 (leb (length fs) places) OutputTooShort (Ok tt) (λ e. omega arith) (λ e. omega arith) in
    let never-3 = check-never 23 (leb (length (bytes_in fs)) room) OutputTooShort r4 (λ e. omega arith) never-4 in
    let never-2 = check-never 23 (leb (length message) 4096) MessageTooLong r3 (λ e. omega arith) never-3 in
    let never-1 : refusal_number r1 ≢ 23 = subst (λ (b : Bool). refusal_number (check b ShortForm r2) ≢ 23) (sym long) never-2 in
    check-never 23 (form_valid form) OutOfRange (check (fits form (data_of s false) 0) OutOfRange r1) (λ e. omega arith)
    (check-never 23 (fits form (data_of s false) 0) OutOfRange r1 (λ e. omega arith) never-1)
    (sym (cut_by_lem (cut_verdict form s message room places) fs _ refl).0 ∙ e)

-- ---- joining

data-never : (before : Option Data) (last : Bool) (d : Data) → refusal_number (data_verdict before last d) ≢ 23
unfolding data_verdict
data-never before last d =
    let r2 = check (not (last && d.m)) Malformed (Ok tt) in
    check-never 23 (last || d.m) FormatError (check (follows before d) RunBroken r2) (λ e. omega arith)
    (check-never 23 (follows before d) RunBroken r2 (λ e. omega arith)
    (check-never 23 (not (last && d.m)) Malformed (Ok tt) (λ e. omega arith) (λ e. omega arith)))

packet-never : (before : Option Data) (last : Bool) (found : Option Data) → refusal_number (packet_verdict before last found) ≢ 23
packet-never before last None = λ e. omega arith
packet-never before last (Some d) = data-never before last d

-- positions do not matter
all-never : (at : ℕ) (v : Verdict) → refusal_number v ≢ 23 → fault_number (all_at at v) ≢ 23
all-never at (Ok tt) h = h
all-never at (Err why) h = h

from-never : (start : ℕ) (c : Checked) → fault_number c ≢ 23 → fault_number (from start c) ≢ 23
from-never start (Ok tt) h = h
from-never start (Err fault) h = h

turn-never : (before : Option Data) (last : Bool) (r : Read) → fault_number r ≢ 23 → fault_number (turn_checks before last r) ≢ 23
turn-never before last (Ok (PacketIn p place)) h = all-never 0 (packet_verdict before last (as_data p)) (packet-never before last (as_data p))
turn-never before last (Ok (RouteIn r)) h = λ e. omega arith
turn-never before last (Err fault) h = h

frames-never : (form : Form) (before : Option Data) (start : ℕ) (fs : List (List ℕ)) → fault_number (frames_checks form before start fs) ≢ 23
unfolding frames_checks
frames-never form before start [] = λ e. omega arith
frames-never form before start (f ∷ fs) =
    let turn = turn_checks before (is_none fs) (read_of form f) in
    then-at-never 23 (from start turn) (frames_checks form (data_in (read_of form f)) (start + length f) fs)
    (from-never start turn (turn-never before (is_none fs) (read_of form f) (read-not-short form f))) (frames-never form (data_in (read_of form f)) (start + length f) fs)

size-never : (n room : ℕ) → refusal_number (size_verdict n room) ≢ 23
size-never n room =
    check-never 23 (leb n 4096) MessageTooLong (check (leb n room) OutputTooShort (Ok tt)) (λ e. omega arith)
    (check-never 23 (leb n room) OutputTooShort (Ok tt) (λ e. omega arith) (λ e. omega arith))

joining : (form : Form) (lengths bytes : List ℕ) (room : ℕ) → fault_number (join_of form lengths bytes room) ≢ 23
unfolding join_of join_checks
joining form lengths bytes room e =
    let fs = parts_of lengths bytes in
    let n = length (message_in form fs) in
    let all = length bytes in
    let size = all_at all (size_verdict n room) in
    let r3 = and_then_at (frames_checks form None 0 fs) size in
    let r2 = check_at (not (is_none lengths)) Malformed all r3 in
    let r1 = check_at (eqb (sum lengths) all) Malformed all r2 in
    at-never 23 (form_valid form) OutOfRange 0 r1 (λ e. omega arith)
    (at-never 23 (eqb (sum lengths) all) Malformed all r2 (λ e. omega arith)
    (at-never 23 (not (is_none lengths)) Malformed all r3 (λ e. omega arith)
    (then-at-never 23 (frames_checks form None 0 fs) size (frames-never form None 0 fs) (all-never all (size_verdict n room) (size-never n room)))))
    (sym (join_by_lem (join_checks form lengths bytes room) n _ refl).0 ∙ e)

pub short-not-cut : ShortNotCut
short-not-cut = record { in-short = in-short; in-long = in-long; joining = joining }

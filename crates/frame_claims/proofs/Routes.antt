-- A ROUTE written is read back, and one read is written back; and its refusals.
-- Assumes nothing.
use mathlib.Core.Path.{◌≡◌, refl, sym, ap, ap₂, ◌∙◌, subst}
use mathlib.Core.Bool.{Bool, true, false, cond}
use mathlib.Core.List.{List, [], ◌∷◌, ◌++◌}
use Prim.Native.Nat.{ℕ, ◌+◌, ◌-◌, ◌≤◌}
use native.Mathlib.Omega.{arith}
use lib.Dec.{eqb}
use lib.ListN.{length, take, drop, take-append-drop}
use lib.Seq.{take_at, drop-drop}
use borrow.Author.Tests.{lt-ltb}
use Rattle.refusal.specs.Positions.{Checked}
use Rattle.lists.specs.Lists.{over}
use Rattle.little.specs.Little.{flag}
use Rattle.frame_fields.specs.Rows.{AreBytes}
use Rattle.frame_form.specs.declared.Form.{Form}
use Rattle.frame_form.specs.Forms.{seg_of, most_of, is_long}
use Rattle.frame_form.specs.Segments.{frame_length}
use Rattle.frame_kinds.specs.declared.Found.{Found}
use Rattle.frame_kinds.specs.declared.Found.TheVariants.{Known, Route as RouteFound, Unknown}
use Rattle.frame_kinds.specs.Kinds.{route_layout}
use Rattle.frame_reader.specs.Faults.{packet_length}
use Rattle.frame_reader.specs.Reading.{found_in, read_checks}
use Rattle.frame_writer.specs.Writing.{output_by}
use Rattle.frame_writer.specs.Routes.{route_after, route_length, route_fits, route_frame}
use Rattle.frame_writer.proofs.Routes.{after-length}
use Rattle.frame_writer.proofs.Verdicts.{accepted, accepts}
use Rattle.frame.specs.declared.Route.{Route}
use Rattle.frame.specs.Writing.{written_by}
use Rattle.frame.specs.Reading.{extra_of, route_of, read_by, read_of, part_of, extra_part, extra_length}
use Rattle.frame.proofs.Numbers.{of-told}
use Rattle.frame.specs.Routes.{route_said, write_route_of, write_route_output}
use Rattle.frame.proofs.KindLaws.{bit-read}
use Rattle.frame.proofs.OneLayout.{free_in}
use Rattle.frame.proofs.Frames.{written-done}
use Rattle.frame_claims.specs.Routes.{HoldsRoute, route_with, RouteIsRead, ReadIsRoute, ReadIsRouteWritten, RouteReadBack}
use Rattle.frame_claims.proofs.RouteFrames.{front-take, front-drop, flags, fits-flags, table-first, data-second, written, of_in, in_in, rtl_in, after_in, table_in, extra_in, IsRoute, is-route}
use Rattle.refusal.specs.Numbers.{Verdict}
use Rattle.frame.specs.declared.Contents.TheVariants.{Route as RouteIn}
use Rattle.std.specs.Prelude.{Ok, Err, Some, None, is_some}

-- ---- places

flag-back : (b : Bool) → eqb (flag b) 1 ≡ b
flag-back true = refl
flag-back false = refl

-- optional data of e bytes after a table of t bytes, in m bytes
extra-place : (b : Bool) (t e m : ℕ) → m ≡ t + cond b (1 + e) 0
    → extra_of b t m ≡ cond b (Some (record { at = 3 + t; len = e })) None
extra-place false t e m h = refl
extra-place true t e m h =
    let len : m - (t + 1) ≡ e = omega (arith, h) in
    rw (lt-ltb t m (omega (arith, h))) (ap (λ (n : ℕ). Some (record { at = 3 + t; len = n })) len)

route-with : (optional initial : Bool) (t e m : ℕ) → m ≡ t + cond optional (1 + e) 0
    → route_of (flag optional ∷ flag initial ∷ t ∷ []) m ≡ route_with optional initial t e
route-with optional initial t e m h =
    let place = ap (λ (b : Bool). extra_of b t m) (flag-back optional) ∙ extra-place optional t e m h in
    λ j. record { initial = flag-back initial j; table = record { at = 2; len = t }; extra = place j }

-- the length of what follows RTL
after-size : (optional : Bool) (table extra : List ℕ) → length (route_after (flag optional) table extra) ≡ length table + cond optional (1 + length extra) 0
after-size true table extra = omega (arith, after-length 1 table extra)
after-size false table extra = omega (arith, after-length 0 table extra)

-- the bytes at that place
second-kept : (b : Bool) (t e : ℕ) (frame a z : List ℕ) → drop 2 frame ≡ a ++ z → length a ≡ t + cond b (1 + e) 0
    → extra_part frame (cond b (Some (record { at = 3 + t; len = e })) None) ≡ cond b (drop (t + 1) a) []
second-kept false t e frame a z rest size = refl
second-kept true t e frame a z rest size =
    let sum : 3 + t ≡ 2 + (t + 1) = omega arith in
    ap (λ (n : ℕ). take e (drop n frame)) sum ∙ ap (take e) (sym (drop-drop (t + 1) 2 frame))
    ∙ ap (λ (d : List ℕ). take e (drop (t + 1) d)) rest ∙ front-drop a z (t + 1) e (omega (arith, size)) (omega (arith, size))

-- ---- by the layout

module _ (form : Form) (optional initial : Bool) (table extra : List ℕ) (h : HoldsRoute form optional initial (length table) (length extra)) where
  abbrev frame : List ℕ
  frame = route_frame form (flag optional) (flag initial) table extra

  abbrev a : List ℕ
  a = route_after (flag optional) table extra

  frame-is-read : RouteIsRead form optional initial table extra frame
  unfolding read_of
  frame-is-read =
      let w = written form (flag optional) (flag initial) table extra h.good h.fit h.most in
      let none = (flags (flag optional) (flag initial) (length extra) h.fit).none in
      let size = after-size optional table extra in
      record {
        fields =
            ap₂ (λ (c : Checked) (f : Found). read_by c f form frame) w.checks w.found
            ∙ ap₂ (λ (xs : List ℕ) (n : ℕ). Ok (RouteIn (route_of xs (n - 2)))) w.values w.packet
            ∙ ap (λ (r : Route). Ok (RouteIn r)) (route-with optional initial (length table) (length extra) (2 + length a - 2) (omega (arith, size)));
        table_kept =
            ap (take (length table)) w.rest ∙ front-take a w.pad (length table) (omega (arith, size))
            ∙ table-first (flag optional) table extra none;
        data-kept =
            second-kept optional (length table) (length extra) frame a w.pad w.rest size
            ∙ ap (λ (b : Bool). cond b (drop (length table + 1) a) []) (sym (flag-back optional))
            ∙ data-second (flag optional) table extra none;
      }

-- a frame that passes as a ROUTE
module _ (form : Form) (frame : List ℕ) (bytes : AreBytes frame) (q : IsRoute form frame) where
  abbrev o : ℕ
  o = of_in frame

  abbrev i : ℕ
  i = in_in frame

  abbrev second : Bool
  second = eqb o 1

  abbrev read : Route
  read = route_of (free_in route_layout frame) (packet_length (seg_of form) route_layout frame - 2)

  of_is : flag second ≡ o
  of_is = bit-read o q.fit.of_low

  in_is : flag (eqb i 1) ≡ i
  in_is = bit-read i q.fit.in-low

  -- what follows RTL, and what is after the packet
  rest : drop 2 frame ≡ after_in form frame ++ drop (packet_length (seg_of form) route_layout frame - 2) (drop 2 frame)
  unfolding after_in
  rest = sym (take-append-drop (packet_length (seg_of form) route_layout frame - 2) (drop 2 frame))

  table_is : part_of frame read.table ≡ table_in form frame
  table_is = ap (take (rtl_in frame)) rest ∙ front-take (after_in form frame) _ (rtl_in frame) (omega (arith, q.ends))

  place : read.extra ≡ cond second (Some (record { at = 3 + rtl_in frame; len = length (extra_in form frame) })) None
  place = extra-place second (rtl_in frame) (length (extra_in form frame)) _ (omega (arith, q.ends, q.packet))

  -- there is optional data if OF is set
  told : is_some read.extra ≡ second
  told = of-told second (rtl_in frame) _

  extra-is : extra_part frame read.extra ≡ extra_in form frame
  extra-is = ap (extra_part frame) place ∙ second-kept second (rtl_in frame) (length (extra_in form frame)) frame (after_in form frame) _ rest q.ends

  table-length : rtl_in frame ≡ length (part_of frame read.table)
  table-length = sym q.table-size ∙ ap length (sym table_is)

  same-length : length (extra_in form frame) ≡ length (extra_part frame read.extra)
  same-length = ap length (sym extra-is)

  of-route : ReadIsRoute form frame read
  of-route =
      let told-is : flag (is_some read.extra) ≡ o = ap flag told ∙ of_is in
      let length-is : route_length o (length (table_in form frame)) (length (extra_in form frame))
      ≡ route_length (flag (is_some read.extra)) (length (part_of frame read.table)) (length (extra_part frame read.extra)) =
      λ j. route_length (sym told-is j) (length (sym table_is j)) (length (sym extra-is j)) in
      record {
        same = sym (q.same bytes) ∙ (λ j. route_frame form (sym told-is j) (sym in_is j) (sym table_is j) (sym extra-is j));
        holds = record {
          good = q.good;
          fit = (λ j. route_fits (told-is j) (in_is j) (length (extra-is j))) ∙ fits-flags o i (length (extra_in form frame)) q.fit;
          most = subst (λ (x : ℕ). x ≤ most_of form) length-is q.most;
        };
        places = λ j. record {
          initial = eqb i 1;
          table = record { at = 2; len = table-length j };
          extra =
              (place ∙ ap₂ (λ (t e : ℕ). cond second (Some (record { at = 3 + t; len = e })) None) table-length same-length
              ∙ ap (λ (b : Bool). cond b (Some (record { at = 3 + length (part_of frame read.table); len = length (extra_part frame read.extra) })) None) (sym told)) j;
        };
      }

-- if the answer is a ROUTE, all checks passed
by-found : (form : Form) (frame : List ℕ) (r : Route) (c : Checked) (f : Found) → AreBytes frame → read_checks form frame ≡ c → found_in frame ≡ f
    → read_by c f form frame ≡ Ok (RouteIn r) → ReadIsRoute form frame r
by-found form frame r (Err fault) f bytes ec ef e = let z : ◌≡◌ {A = ℕ} 0 1 = cc in absurd (omega arith)
by-found form frame r (Ok tt) (Known k) bytes ec ef e = let z : ◌≡◌ {A = ℕ} 0 1 = cc in absurd (omega arith)
by-found form frame r (Ok tt) Unknown bytes ec ef e = let z : ◌≡◌ {A = ℕ} 0 1 = cc in absurd (omega arith)
by-found form frame r (Ok tt) RouteFound bytes ec ef e =
    let same : route_of (free_in route_layout frame) (packet_length (seg_of form) route_layout frame - 2) ≡ r = cc in
    subst (ReadIsRoute form frame) same (of-route form frame bytes (is-route form frame ec ef))

read-is-frame : (form : Form) (frame : List ℕ) (r : Route) → AreBytes frame → read_of form frame ≡ Ok (RouteIn r) → ReadIsRoute form frame r
unfolding read_of
read-is-frame form frame r bytes e = by-found form frame r (read_checks form frame) (found_in frame) bytes refl refl e

-- ---- written

output-is : (form : Form) (optional initial : Bool) (table extra out : List ℕ) → route_said form optional initial (length table) (length extra) (length out) ≡ Ok tt
    → write_route_output form optional initial table extra out ≡ over (route_frame form (flag optional) (flag initial) table extra) out
unfolding write_route_output
output-is form optional initial table extra out e = ap (λ (v : Verdict). output_by v (route_frame form (flag optional) (flag initial) table extra) out) e

written-is-read : (form : Form) (optional initial : Bool) (table extra out : List ℕ) (n : ℕ)
    → write_route_of form optional initial (length table) (length extra) (length out) ≡ Ok n
    → RouteIsRead form optional initial table extra (take n (write_route_output form optional initial table extra out))
unfolding write_route_of
written-is-read form optional initial table extra out n e =
    let o = flag optional in
    let i = flag initial in
    let len = route_length o (length table) (length extra) in
    let w = written-done (route_said form optional initial (length table) (length extra) (length out)) (frame_length (seg_of form) len) n e in
    let a = accepted form (route_fits o i (length extra)) len (length out) w.0 in
    let F = route_frame form o i table extra in
    let size : length F ≡ n = (written form o i table extra a.good a.fit a.most).size ∙ w.1 in
    let front : F ≡ take n (write_route_output form optional initial table extra out) =
    sym (ap (take n) (output-is form optional initial table extra out w.0) ∙ take_at F (drop (length F) out) n size) in
    subst (RouteIsRead form optional initial table extra) front
    (frame-is-read form optional initial table extra (record { good = a.good; fit = a.fit; most = a.most }))

-- the length at its place, also if there is none
extra-len : (b : Bool) (i t e : ℕ) → route_fits (flag b) i e ≡ true
    → extra_length (cond b (Some (record { at = 3 + t; len = e })) None) ≡ e
extra-len true i t e h = refl
extra-len false i t e h = sym ((flags 0 i e h).none (λ z. omega (arith, z)))

read-is-written : (form : Form) (frame : List ℕ) (r : Route) (out : List ℕ) → is_long form ≡ true → AreBytes frame → read_of form frame ≡ Ok (RouteIn r)
    → length frame ≤ length out → ReadIsRouteWritten form frame r out
unfolding write_route_of
read-is-written form frame r out long bytes e room =
    let f = read-is-frame form frame r bytes e in
    let h = f.holds in
    let b = is_some r.extra in
    let o = flag b in
    let i = flag r.initial in
    let table = part_of frame r.table in
    let extra = extra_part frame r.extra in
    let len = route_length o (length table) (length extra) in
    let fills : frame_length (seg_of form) len ≡ length frame =
    sym (written form o i table extra h.good h.fit h.most).size ∙ ap length (sym f.same) in
    let v : route_said form b r.initial (length table) (length extra) (length out) ≡ Ok tt =
    accepts form (route_fits o i (length extra)) len (length out)
    (record { good = h.good; fit = h.fit; long = long; most = h.most; room-enough = omega (arith, fills, room) }) in
    record {
      answer =
          (λ j. write_route_of form b r.initial (f.places j).table.len ((ap (λ (x : Route). extra_length x.extra) f.places ∙ extra-len b i (length table) (length extra) h.fit) j) (length out))
          ∙ ap (λ (x : Verdict). written_by x (frame_length (seg_of form) len)) v ∙ ap Ok fills;
      bytes = output-is form b r.initial table extra out v ∙ ap (λ (x : List ℕ). over x out) (sym f.same);
    }

pub route-read-back : RouteReadBack
route-read-back = record { frame-is-read = frame-is-read; read-is-frame = read-is-frame; written-is-read = written-is-read; read-is-written = read-is-written }

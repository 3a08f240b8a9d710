-- What is known of a frame of which parts were heard.
use Rattle.std.proofs.Common.{◌≡◌, ℕ, ℤ, pos, ◌<◌, ◌≤◌, ◌^◌, true, false, List, ◌++◌, length, Ok, Err, sym, ap, ◌∙◌, subst, arith}
use Rattle.std.specs.Int.{w32, to_be_bytes}
use Rattle.streams.specs.Cause.{Rose}
use Rattle.outside.specs.Pipes.{PipeState}
use Rattle.host_model.specs.Frames.{size_bytes, IsPartial}
use Rattle.port_calls.specs.Exchanging.{HasGot, HasHeard, HasHeardFrame, fault_of}
use Rattle.port_calls.specs.declared.asking_fault.AskingFault.{AskingFault}
use Rattle.port_calls.specs.declared.asking_fault.AskingFault.TheVariants as faults
use Rattle.port_calls.specs.declared.hearing.Unheard.{Unheard}
use Rattle.port_calls.specs.declared.hearing.Unheard.TheVariants as unheard
use Rattle.port_calls.proofs.HeardBytes.{got_on}

-- a size that a frame has and fewer bytes than it says are less than a frame
abbrev pub PayloadLaw : Type 0
PayloadLaw = (max size : ℕ) (bytes : List ℕ) → max < 2 ^ 31 → 1 ≤ size → size ≤ max → length bytes < size → IsPartial max (to_be_bytes w32 size ++ bytes)

module _ {A B : Type 0} (most : ℕ) (size : B → List ℕ) (payload : A → List ℕ) where
  -- the size is whole
  whole_size : (old new : PipeState) (b : B) → HasHeard 4 size old new (Ok b) → 4 ≤ length (size b) → HasGot (size b) false old new
  whole_size old new b h all = let within : length (size b) ≤ 4 = h.so.within in h.so.whole (omega arith)

  module _ (old mid new : PipeState) (b : B) (z : ℤ) (count : ℕ) (first : HasHeard 4 size old mid (Ok b)) (all : 4 ≤ length (size b)) (is : size_bytes z ≡ size b)
      (counts : pos count ≡ z) (some : 1 ≤ count) (within : count ≤ most) (small : most < 2 ^ 31) where
    sized : HasGot (to_be_bytes w32 count) false old mid
    sized = subst (λ (xs : List ℕ). HasGot xs false old mid) (sym (ap size_bytes counts ∙ is)) (whole_size old mid b first all)

    unheard_behind : (u : Unheard) → PayloadLaw → HasHeard count payload mid new (Err u) → HasHeardFrame most payload old new (Err (fault_of u))
    unheard_behind unheard.NetFault law h =
        let kept : mid.read_faults ≡ old.read_faults = first.so.kept in
        let rose : Rose mid.read_faults new.read_faults = h.so.1 in
        record {
          so = (
            record {
              bytes = to_be_bytes w32 count ++ h.so.0.bytes;
              got = got_on (to_be_bytes w32 count) h.so.0.bytes false old mid new sized h.so.0.got;
              partial = law most count h.so.0.bytes small some within h.so.0.fewer;
            },
            omega arith,
          );
        }
    unheard_behind unheard.NoMemory law h =
        record {
          so = (
            record {
              bytes = to_be_bytes w32 count ++ h.so.0.bytes;
              got = got_on (to_be_bytes w32 count) h.so.0.bytes false old mid new sized h.so.0.got;
              partial = law most count h.so.0.bytes small some within h.so.0.fewer;
            },
            h.so.1 ∙ first.so.kept,
          );
        }

    -- the payload couldn't be heard
    pub unheard_payload : (u : Unheard) (e : AskingFault) → PayloadLaw → HasHeard count payload mid new (Err u) → e ≡ fault_of u
        → HasHeardFrame most payload old new (Err e)
    unheard_payload u e law h e_is = subst (λ (f : AskingFault). HasHeardFrame most payload old new (Err f)) (sym e_is) (unheard_behind u law h)

    -- the end came before the payload was whole
    pub short_payload : (a : A) → PayloadLaw → HasHeard count payload mid new (Ok a) → length (payload a) < count → HasHeardFrame most payload old new (Err faults.Cut)
    short_payload a law h less =
        record {
          so = (
            record {
              bytes = to_be_bytes w32 count ++ payload a;
              got = got_on (to_be_bytes w32 count) (payload a) true old mid new sized (h.so.short less);
              partial = law most count (payload a) small some within less;
            },
            h.so.kept ∙ first.so.kept,
          );
        }

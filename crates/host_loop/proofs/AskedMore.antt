-- What an ask of the hall leaves that changes nothing on the loop: what was woven goes on with it.
use Rattle.std.proofs.Common.{◌≡◌, ℕ, ◌+◌, Bool, true, false, ◌||◌, List, [], ◌∷◌, ◌++◌, refl, ap, ◌∙◌, subst, arith, append_assoc}
use Rattle.std.specs.List.{AllByRecursion}
use Rattle.std.proofs.lemmas.Option.{IfSome_then}
use Rattle.streams.specs.declared.rest_place.RestPlace.{RestPlace}
use Rattle.outside.specs.LinksState.{LinksState}
use Rattle.call_rules.specs.PlainCalls.{PlainCall}
use Rattle.machine_model.specs.HallRule.{HallOperation}
use Rattle.machine_model.specs.OwnCalls.{any_of, summed_calls}
use Rattle.machine_model.specs.OwnLoop.{refuses_job}
use Rattle.machine_model.specs.Loop.{Loop, LoopAsks}
use Rattle.machine_model.specs.Merge.{handles, calls, no_loop}
use Rattle.machine_model.proofs.Extending.{weaves-append, calls-append}
use Rattle.machine_model.proofs.Owning.{number_push}
use Rattle.loop_conns.specs.declared.connections.LoopConnections.{LoopConnections}
use Rattle.loop_conns.specs.Woven.{ServedItem, ServedAsk, WeavesLent, IsPassedAtRest, IsWovenTo, LoopIsRunning}

-- one more ask at the end of what was woven with its lengths
ask_behind : (max : ℕ) (items : List ServedItem) (lengths : List ℕ) (old mid : Loop) (e : ServedAsk) → WeavesLent max old items lengths mid → LoopAsks mid e.op e.reply mid
    → WeavesLent max old (items ++ calls e ∷ []) lengths mid
ask_behind max [] lengths old mid e t ask = (mid, subst (λ l. LoopAsks l e.op e.reply mid) t.1 ask, (t.0, refl))
ask_behind max (handles conn_event ∷ items) lengths old mid e t ask = (t.0, t.1, t.2, t.3, ask_behind max items t.1 t.0 mid e t.4 ask)
ask_behind max (calls x ∷ items) lengths old mid e t ask = (t.0, t.1, ask_behind max items lengths t.0 mid e t.2 ask)

module _ (max budget : ℕ) (weave : List ServedItem) (loop : Loop) (e : ServedAsk) (ask : LoopAsks loop e.op e.reply loop) where
  rests_on : (noted : RestPlace) → IsPassedAtRest max budget weave loop noted → IsPassedAtRest max budget (weave ++ calls e ∷ []) loop noted
  rests_on noted p =
      record {
        mid = p.mid;
        front = p.front;
        back = p.back ++ calls e ∷ [];
        split = ap (λ xs. xs ++ calls e ∷ []) p.split ∙ append_assoc p.front p.back (calls e ∷ []);
        before = p.before;
        behind = weaves-append max p.mid loop loop p.back (calls e ∷ []) p.behind (loop, ask, refl);
        place = p.place;
        at_rest = p.at_rest;
        over_budget = p.over_budget;
        within = p.within;
      }

  all_rest_on : (places : List RestPlace) → AllByRecursion (IsPassedAtRest max budget weave loop) places → AllByRecursion (IsPassedAtRest max budget (weave ++ calls e ∷ []) loop) places
  all_rest_on [] a = tt
  all_rest_on (noted ∷ places) a = (rests_on noted a.0, all_rest_on places a.1)

module _ (max : ℕ) (first links : LinksState) (kept : LoopConnections) (asks : List ServedAsk) where
  pub asks_woven : (loop : Loop) (e : ServedAsk) → LoopAsks loop e.op e.reply loop → IsWovenTo max first links kept asks loop → IsWovenTo max first links kept (asks ++ e ∷ []) loop
  asks_woven loop e ask w =
      record {
        weave = w.weave ++ calls e ∷ [];
        woven = weaves-append max no_loop loop loop w.weave (calls e ∷ []) w.woven (loop, ask, refl);
        asked = calls-append w.weave (calls e ∷ []) ∙ ap (λ xs. xs ++ e ∷ []) w.asked;
        tied = w.tied;
        within = w.within;
        lengths = IfSome_then links.lengths w.lengths (λ lengths t. ask_behind max w.weave lengths no_loop loop e t ask);
        rests = IfSome_then links.rests w.rests (λ places t. all_rest_on max kept.table.budget w.weave loop e ask places t);
      }

  pub asks_goes : (g : LoopIsRunning max first links kept asks) (e : ServedAsk) → LoopAsks g.loop e.op e.reply g.loop → refuses_job e.op e.reply ≡ 0 → LoopIsRunning max first links kept (asks ++ e ∷ [])
  asks_goes g e ask taken =
      record {
        loop = g.loop;
        so_far = asks_woven g.loop e ask g.so_far;
        phases = g.phases;
        none_left = g.none_left;
        none_stopped = g.none_stopped;
        taken =
            let n : summed_calls refuses_job (asks ++ e ∷ []) ≡ summed_calls refuses_job asks + refuses_job e.op e.reply = number_push refuses_job asks e in
            let before : summed_calls refuses_job asks ≡ 0 = g.taken in
            omega arith;
        owing = g.owing;
        quiet = g.quiet;
      }

-- none of these does it, and the last doesn't
pub none_last : (test : HallOperation PlainCall → Bool) (own : List ServedAsk) (e : ServedAsk) → any_of test own ≡ false → test e.op ≡ false → any_of test (own ++ e ∷ []) ≡ false
none_last test [] e none last = ap (λ (b : Bool). b || false) last
none_last test (x ∷ own) e none last = go (test x.op) none (λ h. none_last test own e h last)
  where
    go : (b : Bool) → (b || any_of test own) ≡ false → (any_of test own ≡ false → any_of test (own ++ e ∷ []) ≡ false) → (b || any_of test (own ++ e ∷ [])) ≡ false
    go true h more = h
    go false h more = more h

-- A request that was served by its call.
use Rattle.std.proofs.Common.{◌≡◌, inl, ℕ, List, [], ◌∷◌, Option, sym, ap, ◌∙◌}
use Rattle.pocket_wire.specs.declared.request.Ended.{Ended}
use Rattle.pocket_wire.specs.declared.request.Request.{Request}
use Rattle.pocket_api.specs.Replies.{reply_bytes}
use Rattle.pocket_api.specs.Works.{work_of}
use Rattle.pocket_api.specs.declared.reply.Reply.{Reply}
use Rattle.pocket_api.specs.declared.work.Draw.{Draw}
use Rattle.pocket_api.specs.declared.work.Work.{Work}
use Rattle.pocket_desk.specs.declared.view.Call.{Call}
use Rattle.pocket_serve.specs.Sending.{is_last}
use Rattle.pocket_serve.specs.Serving.{GoesOn, IsServed}
use Rattle.pocket_serve.specs.Sessions.{IsCallFrom, IsExchange}

-- the draw of the work that was made with it
drawn_as : (request : Request) (draw : Draw) (work : Work) → work ≡ work_of request draw → work.draw ≡ draw
drawn_as request draw work is = ap (λ (w : Work). w.draw) is

pub served : (fits enters : List Work → Work → Reply → Type 0) (follows : ℕ → ℕ → Type 0) (history : List Work) (seen next : ℕ) (Came : List (Call Work Reply) → Type 0)
    (past present : List Work) (old new : Option (List ℕ)) (before now number : ℕ) (request : Request) (draw : Draw) (end : Option Ended) (work : Work) (reply : Reply)
    → work ≡ work_of request draw
    → ((call : Call Work Reply) × (call.work ≡ work) × (call.reply ≡ reply) × IsCallFrom fits enters follows history seen call next × Came (call ∷ []))
    → GoesOn old new before now request.close (reply_bytes reply (is_last number request)) end
    → IsServed (λ call text. IsExchange fits enters follows history number seen request call text next) Came past present old new before now request.close draw end
served fits enters follows history seen next Came past present old new before now number request draw end work reply is_work (call, same_work, same_reply, from, came) goes =
    let drawn : call.work.draw ≡ draw = ap (λ (w : Work). w.draw) same_work ∙ drawn_as request draw work is_work in
    inl (record {
      call = call;
      text = reply_bytes reply (is_last number request);
      drawn = drawn;
      exchange = record {
        call_for = record {
          work = same_work ∙ is_work ∙ ap (work_of request) (sym drawn);
          call_from = from;
        };
        text_is = ap (λ r. reply_bytes r (is_last number request)) (sym same_reply);
      };
      came = came;
      goes_on = goes;
    })

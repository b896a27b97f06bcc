-- A host that holds the image and serves a running operation, and a run of an operation against it.
use Rattle.std.specs.Prelude.{ℕ, suc, ◌-◌, ◌≡◌, Bool, true, false, List, [], ◌∷◌, take, drop}
use Rattle.std.proofs.lemmas.List.Edits.{sets}
use Rattle.chip.specs.Chip.{written}
use Rattle.chip.specs.Geometry.{region_of, erase_region}
use Rattle.format.specs.declared.Removal.{Removal}
use Rattle.store.specs.Read.{get_of}
use Rattle.store.specs.Call.{Call, get, append, remove, collect, initialise}
use Rattle.running.specs.declared.Op.{Op}
use Rattle.running.specs.declared.Reply.{Reply}
use Rattle.running.specs.declared.Request.{Request}
use Rattle.steps.specs.Step.{stepped, region_after, buffer_after}
use Rattle.stepwise.specs.Asked.{asks}

-- R8.9: the operation and what it last asked for, the image, and what is lent, the same each time: the region buffer, the value and get's buffer.
pub record Host : Type 0 where
  pub op : Op
  pub request : Request
  pub image : List ℕ
  pub region : List ℕ
  pub value : List ℕ
  pub buffer : List ℕ

-- R13.6: the flash does what it is asked: what a service makes of the image of a chip with regions of s bytes, where these bytes are written. A write
-- ANDs, an erase makes 255, a read alters nothing.
abbrev pub service_done : ℕ → List ℕ → Request → List ℕ → List ℕ
service_done s bytes (Request.Read r) image = image
service_done s bytes (Request.Write a e p) image = written image p bytes
service_done s bytes (Request.Erase r) image = erase_region s r image
service_done s bytes (Request.Answers answer) image = image

-- R8.4: the bytes of the region buffer that a request names.
abbrev pub named_bytes : Request → List ℕ → List ℕ
named_bytes (Request.Read r) region = []
named_bytes (Request.Write a e p) region = take (e - a) (drop a region)
named_bytes (Request.Erase r) region = []
named_bytes (Request.Answers answer) region = []

-- R8.4, R13.6: what a service makes of the image: a write takes its bytes from the region buffer.
abbrev pub image_served : ℕ → Request → List ℕ → List ℕ → List ℕ
image_served s request region image = service_done s (named_bytes request region) request image

-- R8.9, R13.6: what a service leaves in the region buffer: a read brings what is there, and nothing else changes it between steps.
abbrev pub region_served : ℕ → Request → List ℕ → List ℕ → List ℕ
region_served s (Request.Read r) region image = region_of s image r
region_served s (Request.Write a e p) region image = region
region_served s (Request.Erase r) region image = region
region_served s (Request.Answers answer) region image = region

-- R8.9: while a read is not ready the region buffer may hold anything, these bytes from its front on; while a write or an erase is not, it stays.
abbrev pub region_meanwhile : Request → List ℕ → List ℕ → List ℕ
region_meanwhile (Request.Read r) bytes region = sets region 0 bytes
region_meanwhile (Request.Write a e p) bytes region = region
region_meanwhile (Request.Erase r) bytes region = region
region_meanwhile (Request.Answers answer) bytes region = region

-- R8.3: a step with a reply: the host lends what it has, and has what the step leaves.
abbrev pub told : Op → Reply → List ℕ → List ℕ → List ℕ → List ℕ → Host
told op y image region value buffer =
    record {
      op = (stepped op y region value buffer).op;
      request = (stepped op y region value buffer).request;
      image = image;
      region = region_after op y region value buffer;
      value = value;
      buffer = buffer_after op y region value buffer;
    }

-- R8.5: a run begins with a step with "begin".
abbrev pub begun : Op → List ℕ → List ℕ → List ℕ → List ℕ → Host
begun op image region value buffer = told op Reply.Begin image region value buffer

-- R8.5, R8.9: "not ready", where a read has brought these bytes so far.
abbrev pub waited : List ℕ → Host → Host
waited bytes h = told h.op Reply.NotReady h.image (region_meanwhile h.request bytes h.region) h.value h.buffer

-- R8.5, R13.6: the service that was asked for is done, and then comes a step with "done".
abbrev pub served : ℕ → Host → Host
served s h = told h.op Reply.Done (image_served s h.request h.region h.image) (region_served s h.request h.region h.image) h.value h.buffer

-- R8.5, R11.9: "failed": nothing of the service was done, though a read may have brought some bytes.
abbrev pub failed : List ℕ → Host → Host
failed bytes h = told h.op Reply.Failed h.image (region_meanwhile h.request bytes h.region) h.value h.buffer

-- R9.7: where a run stands, and the services that it did.
pub record Run : Type 0 where
  pub host : Host
  pub did : List Request

-- R9.7: one service more was done, before those of the run.
abbrev pub logged : Request → Run → Run
logged request run = record { host = run.host; did = request ∷ run.did }

-- R9.7: a beat of the host: it has done what it was asked for, or it is not ready.
pub data Beat : Type 0 where
  ready : Beat
  waiting : (bytes : List ℕ) → Beat

-- R9.7: one beat: nothing once the operation has answered; else a step with "not ready", or the service and a step with "done".
abbrev pub beat : Bool → Beat → ℕ → Host → (Host → Run) → Run
beat false b s h rest = record { host = h; did = [] }
beat true (waiting bytes) s h rest = rest (waited bytes h)
beat true ready s h rest = logged h.request (rest (served s h))

-- R9.7: a run: beats, one after the other, with any number of "not ready" between.
unfoldable pub drive : ℕ → List Beat → Host → Run
drive s [] h = record { host = h; did = [] }
drive s (b ∷ beats) h = beat (asks h.request) b s h (λ (g : Host). drive s beats g)

-- R9.7: one more, in a beat in which the host is ready.
abbrev pub one_if : Beat → ℕ → ℕ
one_if ready n = suc n
one_if (waiting bytes) n = n

-- R9.7: in how many beats the host is ready.
unfoldable pub readies : List Beat → ℕ
readies [] = 0
readies (b ∷ beats) = one_if b (readies beats)

-- R9.7: any number of "not ready" between changes nothing, which is said of two runs, with and without: they stand at the same place, and all is the
-- same, but for the region buffer while a read is asked for, which may then hold anything (R8.9).
pub record Same (run run' : Run) : Type 0 where
  pub op_is : run.host.op ≡ run'.host.op
  pub request_is : run.host.request ≡ run'.host.request
  pub image_is : run.host.image ≡ run'.host.image
  pub region_is : ((r : ℕ) → run.host.request ≡ Request.Read r → ⊥) → run.host.region ≡ run'.host.region
  pub value_is : run.host.value ≡ run'.host.value
  pub buffer_is : run.host.buffer ≡ run'.host.buffer
  pub did_is : run.did ≡ run'.did

-- Any call, taken one service at a time.

-- R8.3: what is lent for a call: append's value is its own and so is get's buffer; where a call has none, anything may be lent.
pub data Lends : Call → List ℕ → List ℕ → Type 0 where
  lends_get : {key : ℕ} {value buffer : List ℕ} → Lends (get key buffer) value buffer
  lends_append : {key : ℕ} {value buffer : List ℕ} → Lends (append key value) value buffer
  lends_remove : {key : ℕ} {how : Removal} {value buffer : List ℕ} → Lends (remove how key) value buffer
  lends_collect : {value buffer : List ℕ} → Lends collect value buffer
  lends_initialise : {key : ℕ} {value buffer : List ℕ} → Lends (initialise key) value buffer

-- R9.7: what the lent buffer holds then: only get changes it, as in the one-call form.
abbrev pub buffer_of : Call → List ℕ → ℕ → ℕ → List ℕ → List ℕ
buffer_of (get key own) image s n buffer = (get_of image s n key buffer).buffer
buffer_of (append key value) image s n buffer = buffer
buffer_of (remove how key) image s n buffer = buffer
buffer_of collect image s n buffer = buffer
buffer_of (initialise key) image s n buffer = buffer

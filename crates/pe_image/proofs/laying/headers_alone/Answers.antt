use Rattle.std.proofs.Common.{◌≡◌, ◌-◌, ◌++◌, ℕ, List, length, take, replicate, refl, ap, sym, ◌∙◌, vec_len, arith}
use Rattle.std.proofs.lemmas.List.{length-take-le, take_all}
use Rattle.pe_image.specs.Headers.{headers_of}
use Rattle.pe_image.specs.ImageRules.{size_of}
use Rattle.pe_image.specs.LaidImage.{headers_alone}
use Rattle.pe_image.proofs.RuleLemmas.{keeps_limits}
use Rattle.pe_image.proofs.ImageByteLemmas.{length-headers_alone}
use Rattle.pe_image.proofs.laying.headers_alone.Goals as goal

pub slice_bounds-extend_from_slice-end : goal.slice_bounds-extend_from_slice-end
slice_bounds-extend_from_slice-end c =
    let numbers = keeps_limits c.args.bytes.now c.requires in
    sym (length-take-le c.size_of_headers.result c.args.bytes.now (omega arith))

-- the front of the file, resized to the size of the image
resized : (c : goal.In_ok-resize) → c.resize.new.self.items ≡ headers_alone c.args.bytes.now
unfolding headers_alone
resized c =
    let bytes = c.args.bytes.now in
    let numbers = keeps_limits bytes c.requires in
    let size = (headers_of bytes).size_of_headers in
    let taken : length (take size bytes) ≡ size = length-take-le size bytes (omega arith) in
    let front : c.extend_from_slice.new.self.items ≡ take size bytes =
    c.in_ok-extend_from_slice.ensures.items ∙ rw (c.in_ok-image.ensures.items, c.size_of_headers.ensures) refl in
    let len : vec_len c.extend_from_slice.new.self ≡ size = omega (arith, c.extend_from_slice.new.self.ok.0, ap (length {A = ℕ}) front, taken) in
    c.in_ok-resize.ensures.items ∙ rw (front, len, c.size_of_image-size.ensures)
    (ap (λ (xs : List ℕ). xs ++ replicate (size_of bytes - size) 0) (take_all (size_of bytes) (take size bytes) (omega arith)))

pub returns-clause-bytes : goal.returns-clause-bytes
returns-clause-bytes c = resized c

pub returns-clause-size : goal.returns-clause-size
returns-clause-size c =
    let bytes = c.args.bytes.now in
    let numbers = keeps_limits bytes c.requires in
    ap length (resized c) ∙ length-headers_alone bytes numbers.headers_in_image numbers.headers_in_file

-- Worked examples, by computing: three of the authors' values of SipHash-2-4, the second of them their paper's own (appendix A), and two of
-- SipHash-1-3, as OpenSSL and Rust's standard library have them. The key is the bytes 0 to 15, and a message the bytes 0, 1, 2 and on.
use Rattle.std.proofs.Common.{◌≡◌, [], ◌∷◌, refl}
use Rattle.format.specs.Little.{of_little}
use Rattle.format.specs.SipHash.{plus, rotl, mixed, round, rounds}
use Rattle.format.specs.SipHash.{initial, absorb, absorbed, pad, words, joined, finish, sip}

pub none : sip 2 4 0x0706_0504_0302_0100 0x0f0e_0d0c_0b0a_0908 [] ≡ 0x726f_db47_dd0e_0e31
unfolding sip initial absorbed absorb pad words of_little finish joined rounds round mixed rotl plus
none = refl

pub fifteen : sip 2 4 0x0706_0504_0302_0100 0x0f0e_0d0c_0b0a_0908 (0 ∷ 1 ∷ 2 ∷ 3 ∷ 4 ∷ 5 ∷ 6 ∷ 7 ∷ 8 ∷ 9 ∷ 10 ∷ 11 ∷ 12 ∷ 13 ∷ 14 ∷ []) ≡ 0xa129_ca61_49be_45e5
unfolding sip initial absorbed absorb pad words of_little finish joined rounds round mixed rotl plus
fifteen = refl

pub eight : sip 2 4 0x0706_0504_0302_0100 0x0f0e_0d0c_0b0a_0908 (0 ∷ 1 ∷ 2 ∷ 3 ∷ 4 ∷ 5 ∷ 6 ∷ 7 ∷ []) ≡ 0x93f5_f579_9a93_2462
unfolding sip initial absorbed absorb pad words of_little finish joined rounds round mixed rotl plus
eight = refl

pub none-faster : sip 1 3 0x0706_0504_0302_0100 0x0f0e_0d0c_0b0a_0908 [] ≡ 0xabac_0158_050f_c4dc
unfolding sip initial absorbed absorb pad words of_little finish joined rounds round mixed rotl plus
none-faster = refl

pub fifteen-faster : sip 1 3 0x0706_0504_0302_0100 0x0f0e_0d0c_0b0a_0908 (0 ∷ 1 ∷ 2 ∷ 3 ∷ 4 ∷ 5 ∷ 6 ∷ 7 ∷ 8 ∷ 9 ∷ 10 ∷ 11 ∷ 12 ∷ 13 ∷ 14 ∷ []) ≡ 0xd320_d86d_2a51_9956
unfolding sip initial absorbed absorb pad words of_little finish joined rounds round mixed rotl plus
fifteen-faster = refl

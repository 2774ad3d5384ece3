mod Inclusion
